-- What is proved of the definitions.
pub mod Margin
pub mod Near
pub mod Parts
