-- statements of them,
pub mod Theorems
-- and the laws that these rest on, which no reader needs to believe.
pub mod Laws
