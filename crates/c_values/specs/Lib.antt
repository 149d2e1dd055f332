-- Definitions.
pub mod Kinds
pub mod Options
