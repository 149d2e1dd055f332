-- Definitions,
pub mod Word
pub mod SplitMix
pub mod Xoshiro
pub mod Uniform
