-- The larger of two numbers, the largest of many, and that it may be taken in any order.
pub mod Larger
pub mod Top
