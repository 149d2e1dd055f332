-- Definitions,
pub mod Bounds
-- and the laws of these definitions, which no reader needs to believe.
pub mod Laws
pub mod AnswerTotals
