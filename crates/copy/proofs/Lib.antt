-- Laws of copies, and of moves within one list.
pub mod Blocks
pub mod Copies
pub mod Moved
pub mod Moves
pub mod LaidLaws
