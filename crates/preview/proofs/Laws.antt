-- What is proved of the definitions.
pub mod Cases
pub mod Costing
pub mod Zeros
