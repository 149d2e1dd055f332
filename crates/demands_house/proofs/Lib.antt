pub mod Lent
pub mod Accepted
pub mod Alone
pub mod Strips
-- and the laws of these definitions, which no reader needs to believe.
pub mod Laws
