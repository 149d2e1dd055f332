-- Definitions and statements,
pub mod Previewed
