-- What to believe: Nearest, and that Sqrt gives each special value what IEEE 754 does.
pub mod Nearest
pub mod WholeRoot
pub mod Sqrt
-- What inner contracts cite.
pub mod Placed
