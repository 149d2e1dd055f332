-- What is proved of the definitions.
pub mod Constants
pub mod Tables
pub mod Place
pub mod Pattern
pub mod Rules
pub mod Tabled
