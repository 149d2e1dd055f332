-- Laws that the proofs of several functions share.
mod FewIteration
mod AlternateIteration
-- and the laws of these definitions, which no reader needs to believe.
pub mod Laws
