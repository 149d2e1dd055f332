-- What is proved of the definitions.
pub mod Counting
pub mod Kinds
pub mod Lists
pub mod Cases
pub mod Runs
pub mod One
pub mod Equal
pub mod Examples
