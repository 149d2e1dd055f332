-- What is proved of the definitions.
pub mod Lists
pub mod Alike
pub mod Given
pub mod Halves
pub mod Mirror
pub mod Kept
pub mod Summed
pub mod Arranged
