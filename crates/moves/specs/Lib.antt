-- What the contracts inside `crc` say: nothing that a caller must believe.
pub mod Moves
