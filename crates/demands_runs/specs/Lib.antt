-- The run of a job as a record,
pub mod OneRun
-- and what is said of the bytes of one.
pub mod Written
