-- Laws that the proofs of several functions share.
mod Bits
mod Filling
mod Sampling
mod Signs
