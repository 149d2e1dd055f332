-- Definitions,
pub mod Jobs
