-- Laws that the proofs of several functions share.
mod Lists
mod Running
mod Finishing
