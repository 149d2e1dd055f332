-- statements,
pub mod Join
pub mod Totals
pub mod Zero
pub mod OneRun
-- and the laws that these rest on, which no reader needs to believe.
pub mod Laws
