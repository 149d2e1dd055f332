-- What is proved of the definitions.
pub mod Calling
pub mod Entering
