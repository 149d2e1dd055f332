-- What shares say of the correlations that an accepted call stored: they are not refused, and a pair's are parts of the configurations.
pub mod Stored
-- and the laws that this takes, which no reader needs to believe.
pub mod Laws
