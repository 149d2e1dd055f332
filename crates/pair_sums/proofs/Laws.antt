-- What is proved of the definitions.
pub mod Vertex
pub mod Stored
