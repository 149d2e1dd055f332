-- Definitions,
pub mod Terms
pub mod Pair
pub mod Stored
