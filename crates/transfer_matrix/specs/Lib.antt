-- Definitions,
pub mod Arithmetic
pub mod Job
pub mod Checked
pub mod Sweep
pub mod Room
pub mod Configuration
pub mod Totals
pub mod Rounded
pub mod Replay
pub mod Original
