-- What is proved of the definitions.
pub mod Rows
pub mod Accepted
pub mod Controls
