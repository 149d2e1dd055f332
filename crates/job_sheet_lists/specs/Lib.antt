-- Definitions and a statement,
pub mod Lists
pub mod Order
