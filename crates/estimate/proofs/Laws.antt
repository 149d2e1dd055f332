-- What is proved of the definitions.
pub mod Cases
pub mod Counted
pub mod Controls
