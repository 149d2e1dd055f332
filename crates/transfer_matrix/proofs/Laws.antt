-- What is proved of the definitions.
pub mod Controls
pub mod Compared
