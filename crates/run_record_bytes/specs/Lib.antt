-- Definitions,
pub mod Described
pub mod Corners
