-- What to believe: Grid, and that it says what Theorems do of a coupling's value.
pub mod Grid
