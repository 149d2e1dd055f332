-- Laws that the proofs share.
mod Backs
mod Inserting
mod Entering
mod Steps
mod Counting
-- and the laws of these definitions, which no reader needs to believe.
pub mod Laws
