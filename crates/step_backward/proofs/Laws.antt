-- What is proved of the definitions.
pub mod Ends
pub mod Fold
pub mod BackwardIs
