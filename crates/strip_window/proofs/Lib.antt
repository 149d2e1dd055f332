mod Reaching
pub mod WindowLaw
pub mod WholeStrip
-- and the laws of these definitions, which no reader needs to believe.
pub mod Laws
