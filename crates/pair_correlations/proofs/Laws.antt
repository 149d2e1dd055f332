-- What is proved of the definitions.
pub mod Sound
pub mod Served
pub mod Planning
