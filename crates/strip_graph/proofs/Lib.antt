mod Diluting
-- what holds of an accepted call,
pub mod Places
-- and the laws of these definitions, which no reader needs to believe.
pub mod Laws
