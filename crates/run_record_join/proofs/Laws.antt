-- What is proved of the definitions.
pub mod Copying
pub mod Cases
