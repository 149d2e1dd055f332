-- What is proved of the definitions.
pub mod Fronts
pub mod Buffers
pub mod Places
