-- Definitions,
pub mod Bits
pub mod Tabulate
pub mod Search
pub mod Count
pub mod Most
pub mod Front
pub mod Part
