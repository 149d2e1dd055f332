-- Definitions,
pub mod PairSet
pub mod PairListing
