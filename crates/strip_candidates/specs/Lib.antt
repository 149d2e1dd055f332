-- Definitions,
pub mod Candidates
