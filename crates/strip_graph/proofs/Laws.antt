-- What is proved of the definitions.
pub mod Accepted
pub mod Lists
pub mod Window
