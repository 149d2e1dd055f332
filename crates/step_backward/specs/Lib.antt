-- What a backward step fills, the definitions that its contract cites, and that the rule over the tables is that of the laws of halves.
pub mod Ends
pub mod Fold
