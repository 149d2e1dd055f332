-- What is proved of the definitions.
pub mod Exact
pub mod Tested
pub mod Table
pub mod Examples
