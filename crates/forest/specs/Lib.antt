-- The definitions that the contracts cite, and their laws.
pub mod Paths
pub mod Labels
pub mod Components
pub mod FreeEdges
pub mod Lowest
