-- The definitions that the contracts cite.
pub mod Zeros
pub mod Passed
