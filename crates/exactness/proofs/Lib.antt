pub mod AnyScales
pub mod Exactness
pub mod Literal
-- and the laws of these definitions, which no reader needs to believe.
pub mod Laws
