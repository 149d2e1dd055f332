-- Definitions,
pub mod Totals
