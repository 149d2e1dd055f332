pub mod Limits
pub mod Callers
