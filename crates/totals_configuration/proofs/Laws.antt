-- What is proved of the definitions.
pub mod Powers
pub mod Passing
pub mod Sums
pub mod Chunked
pub mod Lists
pub mod Nothing
