-- Laws that the proofs share.
mod Digits
mod Placing
mod Answer
mod Cases
-- That the two agree: Theorems, by way of these.
pub mod Theorems
-- and the laws of these definitions, which no reader needs to believe.
pub mod Laws
