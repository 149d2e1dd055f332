-- Definitions,
pub mod Records
pub mod Jobs
