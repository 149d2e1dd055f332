-- What is proved of the definitions.
pub mod Writing
pub mod Finishing
