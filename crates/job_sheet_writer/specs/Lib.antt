-- Definitions,
pub mod Writes
