-- What is proved of the definitions.
pub mod Cases
pub mod Counted
pub mod Controls
pub mod Order
pub mod Mean
pub mod Root
pub mod Most
pub mod Accepted
pub mod Alone
