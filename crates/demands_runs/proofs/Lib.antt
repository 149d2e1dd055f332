-- What accepted calls wrote.
pub mod Written
