-- What is proved of the definitions.
pub mod Fields
pub mod Rows
pub mod Sums
