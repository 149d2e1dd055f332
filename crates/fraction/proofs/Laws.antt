-- What is proved of the definitions.
pub mod Raw
pub mod Fraction
pub mod Value
