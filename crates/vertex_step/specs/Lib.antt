-- The definitions that the contracts cite.
pub mod Frame
pub mod Ready
pub mod Through
