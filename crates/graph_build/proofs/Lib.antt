-- Laws that only the proofs cite.
mod Building
