-- What the theorems rest on.
pub mod Rows
pub mod Joint
pub mod Accepted
pub mod Chained
