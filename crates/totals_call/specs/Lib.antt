-- The definitions that the contracts cite,
pub mod Given
pub mod Jobs
pub mod Calls
pub mod Finished
