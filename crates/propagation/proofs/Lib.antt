-- Laws that the proofs share.
mod Propagation
mod Pairings
-- and the laws of these definitions, which no reader needs to believe.
pub mod Laws
