-- What is proved of the definitions.
pub mod Words
pub mod Rows
pub mod Loaded
pub mod Nans
