-- What is proved of the definitions.
pub mod Grid
pub mod Examples
