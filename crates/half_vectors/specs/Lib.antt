-- The definitions that the contracts cite,
pub mod Half
pub mod Symmetric
pub mod Antisymmetric
pub mod Sums
pub mod Entries
