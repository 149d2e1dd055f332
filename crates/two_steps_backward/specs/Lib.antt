-- The definitions that the contracts cite, and that two steps at once are the one at the earlier vertex of the one at the later.
pub mod Rule
pub mod Inward
