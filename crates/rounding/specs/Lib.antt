-- Definitions,
pub mod Sign
pub mod Under
pub mod Whole
pub mod Powers
pub mod Alike
-- and definitions that laws alone speak of.
pub mod Laws
