-- The rule that the contracts cite, and that two steps at once are the second of the first.
pub mod Rule
