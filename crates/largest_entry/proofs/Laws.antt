-- What is proved of the definitions.
pub mod Order
pub mod Top
pub mod Lanes
pub mod Filled
