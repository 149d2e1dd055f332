-- Laws that the proofs share.
mod Marks
mod Numbers
-- and the laws of these definitions, which no reader needs to believe.
pub mod Laws
