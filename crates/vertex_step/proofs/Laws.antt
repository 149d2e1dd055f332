-- What is proved of the definitions.
pub mod Same
pub mod Frame
pub mod Ready
pub mod Through
pub mod Steady
