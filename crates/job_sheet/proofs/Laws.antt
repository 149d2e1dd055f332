-- What is proved of the definitions.
pub mod Records
pub mod Counts
pub mod Steps
pub mod Accepted
pub mod Grammar
