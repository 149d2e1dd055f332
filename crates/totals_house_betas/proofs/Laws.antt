-- What is proved of the definitions.
pub mod Factors
pub mod Filling
pub mod Sound
pub mod Rows
pub mod Summed
pub mod Planning
pub mod Entering
