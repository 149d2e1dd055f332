-- What is proved of the definitions.
pub mod Behind
pub mod Records
pub mod Rows
