-- Definitions,
pub mod Edges
pub mod Places
pub mod Key
pub mod Couplings
pub mod Request
pub mod Refusal
pub mod Numbers
pub mod Answers
pub mod Accepted
pub mod AcceptedJob
pub mod AcceptedTotals
pub mod StripRequest
