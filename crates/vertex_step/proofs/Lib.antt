-- Laws that the proofs share.
mod Entered
mod Factors
mod Folds
-- and the laws of these definitions, which no reader needs to believe.
pub mod Laws
