-- Laws that sweeps over these steps share.
pub mod BackwardIteration
