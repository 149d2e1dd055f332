-- What the proofs of several functions use.
mod Growing
-- and the laws of these definitions, which no reader needs to believe.
pub mod Laws
