-- That the promises of the calls give each statement.
pub mod Collects
pub mod Judging
pub mod Healing
pub mod Refusals
pub mod Judges
pub mod Rolls
pub mod Sheets
pub mod Sections
pub mod PacketLaws
pub mod Packets
pub mod Readings
pub mod Tied
