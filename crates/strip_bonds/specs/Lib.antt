-- Definitions,
pub mod Edges
pub mod Bonds
pub mod Sites
