-- Laws that the proofs share.
mod PairLaws
mod Answering
mod Two
mod AtVertex
-- and the laws of these definitions, which no reader needs to believe.
pub mod Laws
