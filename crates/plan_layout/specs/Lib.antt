-- The definitions that the contracts cite.
pub mod Arrangements
pub mod Work
pub mod Plannable
