-- What is proved of the definitions.
pub mod Labels
pub mod Components
pub mod FreeEdges
pub mod Lowest
pub mod Marks
pub mod Growth
