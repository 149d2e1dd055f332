-- What is proved of the definitions.
pub mod Algebra
pub mod Digits
pub mod Entries
pub mod Step
pub mod Spins
pub mod Chain
pub mod Settings
pub mod Weights
pub mod Positive
pub mod Pair
pub mod Own
pub mod Start
pub mod Exact
