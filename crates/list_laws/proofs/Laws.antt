-- What is proved of the definitions.
pub mod Tabulate
pub mod Search
pub mod Count
pub mod Most
pub mod Front
pub mod Part
pub mod Power
