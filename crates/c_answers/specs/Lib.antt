-- Definitions,
pub mod Numbers
pub mod Graphs
pub mod Found
pub mod Distances
pub mod Vertices
pub mod Estimated
pub mod Bounds
