-- The packet writer of request (ii): which sections can be sent, where their bytes stand, the packets, and what a call comes to.
pub mod Cut
pub mod Layout
pub mod Packets
pub mod Answer
pub mod Written
pub mod Inner
