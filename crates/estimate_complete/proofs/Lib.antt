-- what is promised of every accepted estimate,
pub mod Theorems
-- and the laws of these definitions, which no reader needs to believe.
pub mod Laws
