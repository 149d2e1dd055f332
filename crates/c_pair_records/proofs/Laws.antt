-- What is proved of the definitions.
pub mod Held
pub mod Uncopied
