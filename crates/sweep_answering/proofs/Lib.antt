-- Laws that the proofs share.
mod Passings
