-- What is proved of the definitions.
pub mod Lent
pub mod Signed
