-- Each entry is the double nearest the series, finite and above zero; they rise; entry 0 is 1.0.
pub mod Theorems
-- and the laws of these definitions, which no reader needs to believe.
pub mod Laws
