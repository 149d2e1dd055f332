-- What the contracts cite.
pub mod Lying
