-- What is proved of the definitions.
pub mod Terms
pub mod Half
pub mod Symmetric
pub mod Antisymmetric
pub mod Sums
pub mod Largest
pub mod Flip
pub mod Entries
pub mod FlipInvariance
