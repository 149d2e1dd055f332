-- The definitions that the contracts cite,
pub mod Sides
pub mod Vertices
pub mod Requests
pub mod Kinds
pub mod Spelling
pub mod Names
