-- What is proved of the definitions.
pub mod Sign
pub mod Under
pub mod Whole
pub mod Sums
pub mod Powers
pub mod Scaled
pub mod Alike
pub mod Commute
pub mod Negation
pub mod Running
pub mod Grid
pub mod Order
pub mod Tests
