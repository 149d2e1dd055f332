-- The definitions that the contracts cite.
pub mod Signed
pub mod Powers
pub mod Stage
pub mod SoFar
pub mod Sums
pub mod Chunked
