-- Definitions that laws speak of.
pub mod Raw
