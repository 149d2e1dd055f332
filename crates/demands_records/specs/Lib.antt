-- Definitions,
pub mod Runs
