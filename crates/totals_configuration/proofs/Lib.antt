-- Laws that the proofs share, here and where every correlation is stored.
pub mod Betas
pub mod Staging
-- and the laws of these definitions, which no reader needs to believe.
pub mod Laws
