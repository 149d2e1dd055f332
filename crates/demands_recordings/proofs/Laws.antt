-- What the theorems rest on.
pub mod Plus
pub mod Squares
