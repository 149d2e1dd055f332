-- The definitions that the contracts cite, and the laws of what is held and of what is not copied.
pub mod Columns
