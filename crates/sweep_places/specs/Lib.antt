-- The definitions that the contracts cite, and what the loops keep.
pub mod Target
pub mod Kept
pub mod Steps
pub mod Begun
pub mod ForwardInvariant
pub mod BackwardInvariant
pub mod Reuse
