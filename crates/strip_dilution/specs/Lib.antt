pub mod Diluted
