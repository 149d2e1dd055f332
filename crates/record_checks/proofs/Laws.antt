-- What is proved of the definitions.
pub mod Lengths
pub mod Parts
