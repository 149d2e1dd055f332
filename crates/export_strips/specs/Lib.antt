-- The definitions that the contracts cite.
pub mod Strips
pub mod Kinds
pub mod PairSets
