pub mod Couplings
-- and what the demands say of one job: numbers, and the mirror rule.
pub mod OneJob
pub mod Mirror
