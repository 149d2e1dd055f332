-- Definitions,
pub mod Checked
