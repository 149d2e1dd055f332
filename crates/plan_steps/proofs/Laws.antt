-- What is proved of the definitions.
pub mod Layout
pub mod Edges
pub mod Listed
