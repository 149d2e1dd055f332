-- The definitions that the contracts cite,
pub mod Graphs
-- what the lists of an accepted call say of raw places,
pub mod Places
