-- Definitions,
pub mod Complete
