-- Definitions,
pub mod Records
pub mod Counts
pub mod Sheets
