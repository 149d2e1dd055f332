-- What is proved of the definitions.
pub mod Numbers
pub mod Graphs
pub mod Found
