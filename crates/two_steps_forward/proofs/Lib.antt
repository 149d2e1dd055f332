-- Laws that the proofs share.
mod Rules
mod ForwardIteration
mod ForwardRuns
-- and the laws of these definitions, which no reader needs to believe.
pub mod Laws
