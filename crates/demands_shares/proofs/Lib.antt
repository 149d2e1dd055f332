-- The same of house calls.
pub mod House
