-- What is proved of the definitions.
pub mod Climb
pub mod Store
pub mod Halve
pub mod Merging
pub mod Hang
pub mod Filled
