-- Laws that the proofs of several functions share.
mod Writing
mod Calls
-- and the laws of these definitions, which no reader needs to believe.
pub mod Laws
