-- The roll: its answers, its marks, schedules, one segment, and a step.
pub mod Answer
pub mod Marks
pub mod Segments
pub mod Gaps
pub mod Roll
