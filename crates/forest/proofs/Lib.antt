-- Laws that only the proofs cite: what a loop over the edges keeps.
mod Numbers
-- and the laws of these definitions, which no reader needs to believe.
pub mod Laws
