-- Definitions,
pub mod Merging
pub mod Forest
