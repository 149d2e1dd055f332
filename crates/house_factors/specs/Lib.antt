-- What to believe: Factors, and that Theorems say it in the words of a coupling's value.
pub mod Factors
pub mod Theorems
