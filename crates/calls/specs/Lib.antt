-- The statements about the calls for C, and about whole sequences of them: the collector's, the judge's, the roll's, both turns of sheets, the
-- packet writer's, and what the readings tell of a wrong field.
pub mod Collects
pub mod Judging
pub mod Healing
pub mod Judges
pub mod Rolls
pub mod Sheets
pub mod Sections
pub mod Packets
pub mod Readings
