-- What is proved of the definitions.
pub mod Rule
pub mod Inward
pub mod BackwardTwice
