-- The definitions that the contracts cite.
pub mod Words
pub mod Fit
pub mod Last
pub mod Signed
