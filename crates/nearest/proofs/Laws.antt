-- What is proved of the definitions.
pub mod Smallest
pub mod Values
pub mod Middles
