pub mod Checking
-- and the laws of these definitions, which no reader needs to believe.
pub mod Laws
