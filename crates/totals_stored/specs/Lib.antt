-- Definitions,
pub mod Stored
pub mod Keeping
