-- The definitions that the contracts cite.
pub mod Sound
pub mod Served
pub mod Aim
pub mod Two
pub mod Direct
