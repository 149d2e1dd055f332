-- The definitions that the contracts cite, and what they say of an accepted call.
pub mod Columns
