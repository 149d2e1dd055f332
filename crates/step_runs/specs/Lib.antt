-- The definitions that the contracts cite,
pub mod Rule
pub mod AtRun
pub mod OpposedRule
