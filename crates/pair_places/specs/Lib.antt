-- Definitions,
pub mod Places
