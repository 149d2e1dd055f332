-- What is proved of the definitions.
pub mod Reach
pub mod EdgeLaws
pub mod Cylinders
