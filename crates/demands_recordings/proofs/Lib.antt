-- how its chunks add up,
pub mod Sums
pub mod Sampled
-- and the laws that these theorems rest on, which no reader needs to believe.
pub mod Laws
