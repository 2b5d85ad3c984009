-- What the crate's contracts say. A reader needs `Crc` alone.
pub mod Crc
pub mod Inner
