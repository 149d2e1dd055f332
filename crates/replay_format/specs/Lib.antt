-- The definitions that the contracts cite,
pub mod Words
pub mod Lists
pub mod Counts
