-- Laws that the proofs of several functions share.
mod Quotient
mod Siting
mod Naming
-- and the laws of these definitions, which no reader needs to believe.
pub mod Laws
