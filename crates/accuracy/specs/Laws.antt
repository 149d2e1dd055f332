-- Definitions that laws speak of.
pub mod Rounds
