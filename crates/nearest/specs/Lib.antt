-- What to believe: Nearest. That the library's rounding gives it, and that nothing else is it: Theorems.
pub mod Nearest
