-- The table of tables, and the same told a second time.
pub mod Tables
pub mod Again
