-- What to believe: Series and House; and Exact, in whose words Theorems say what each entry is nearest to.
pub mod Series
pub mod House
pub mod Exact
