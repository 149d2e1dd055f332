-- Definitions,
pub mod Keep
