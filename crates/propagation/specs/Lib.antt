-- The definitions that the contracts cite.
pub mod Current
pub mod Pairing
