-- Definitions.
pub mod Chains
