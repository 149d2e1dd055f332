-- The definitions that the contracts cite.
pub mod Layout
pub mod Edges
pub mod Rows
