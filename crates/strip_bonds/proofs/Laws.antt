-- What is proved of the definitions.
pub mod Square
pub mod Eight
pub mod Sites
