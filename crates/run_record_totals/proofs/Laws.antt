-- What is proved of the definitions.
pub mod Columns
pub mod Calls
