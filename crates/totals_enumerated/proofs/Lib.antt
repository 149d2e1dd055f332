-- Laws that the proofs share.
mod Standing
pub mod Ranges
