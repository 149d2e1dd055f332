-- What is proved of the definitions.
pub mod Turns
pub mod Lowest
pub mod Examples
