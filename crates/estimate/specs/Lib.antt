-- Definitions,
pub mod Estimates
