-- What the demands say of a call, theorem by theorem.
pub mod OneJob
pub mod Mirror
pub mod Accurate
pub mod Correlations
pub mod Configurations
pub mod AccurateTotals
pub mod Exhaustive
pub mod Storing
pub mod Sampling
pub mod Calls
pub mod Alone
pub mod Strips
pub mod Tester
pub mod Arrangements
-- and the laws of these definitions, which no reader needs to believe.
pub mod Laws
pub mod CurrentHalf
