-- A section's head: its fields, its sub-table, and both again by the bytes alone.
pub mod Head
pub mod SubTable
pub mod Stands
