-- Laws that the proofs of both sweeps share.
pub mod Targets
pub mod Frames
pub mod Unscaled
-- and the laws of these definitions, which no reader needs to believe.
pub mod Laws
