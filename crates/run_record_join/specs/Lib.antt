-- Definitions,
pub mod Joining
pub mod Turns
