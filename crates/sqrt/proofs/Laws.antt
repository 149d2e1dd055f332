-- What is proved of the definitions.
pub mod WholeRoot
pub mod Examples
pub mod Halves
pub mod Middles
pub mod Root
