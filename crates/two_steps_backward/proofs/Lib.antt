-- Laws that the proofs share.
mod BackwardIteration
mod BackwardRuns
-- and the laws of these definitions, which no reader needs to believe.
pub mod Laws
