-- What is proved of the definitions.
pub mod Places
pub mod Sums
pub mod Cases
