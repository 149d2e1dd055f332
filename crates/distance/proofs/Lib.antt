-- Laws that the functions' proofs share.
pub mod Relaxation
pub mod Distances
-- and the laws of these definitions, which no reader needs to believe.
pub mod Laws
