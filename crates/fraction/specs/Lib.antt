-- Exact fractions of whole numbers: as written, as numbers, and as what a double stands for.
pub mod Raw
-- and definitions that laws alone speak of.
pub mod Laws
