-- Definitions that laws speak of.
pub mod Powers
pub mod Under
pub mod Sign
pub mod Running
