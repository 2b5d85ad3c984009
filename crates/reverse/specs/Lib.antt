-- What the packets of the writer are, byte by byte, what the collector makes of them, and what is asked of a writer.
pub mod Sent
pub mod Places
pub mod Rule
pub mod Packets
pub mod FedBack
pub mod Writer
pub mod AtWork
