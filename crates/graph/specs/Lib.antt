-- Definitions,
pub mod Graphs
pub mod Reached
