-- Definitions,
pub mod Window
pub mod Reach
