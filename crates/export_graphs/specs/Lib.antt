-- The definitions that the contracts cite.
pub mod Graphs
pub mod Distances
