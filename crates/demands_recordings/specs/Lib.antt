-- What is proved of every run that is written: what the bytes are,
pub mod Written
pub mod Alike
