-- What is proved of the definitions.
pub mod Bytes
pub mod Read
pub mod Written
