-- What is proved of the definitions.
pub mod Factors
pub mod Steps
pub mod Sweeps
pub mod Pairs
pub mod Chunks
