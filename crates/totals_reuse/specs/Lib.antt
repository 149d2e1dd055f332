-- Definitions,
pub mod Settled
