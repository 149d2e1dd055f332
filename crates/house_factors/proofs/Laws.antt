-- What is proved of the definitions.
pub mod Entries
pub mod Factors
pub mod Accepted
pub mod Examples
