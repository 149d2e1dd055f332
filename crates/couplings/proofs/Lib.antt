-- Laws that the proofs share.
mod Rows
mod Calls
