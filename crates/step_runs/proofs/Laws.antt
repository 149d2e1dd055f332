-- What is proved of the definitions.
pub mod Halves
pub mod Quarter
pub mod InFour
pub mod Fours
pub mod Iteration
pub mod Patterns
pub mod Picks
pub mod AtRun
pub mod RunWeights
pub mod OpposedIteration
pub mod Opposite
