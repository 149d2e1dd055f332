-- Definitions,
pub mod Textbook
pub mod Exact
