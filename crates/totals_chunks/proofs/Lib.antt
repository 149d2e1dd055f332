-- Laws that the proofs share.
mod Adding
mod Idling
-- and the laws of these definitions, which no reader needs to believe.
pub mod Laws
