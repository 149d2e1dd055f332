-- Laws that only the proofs cite.
mod Words
