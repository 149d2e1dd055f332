-- Definitions.
pub mod Marks
