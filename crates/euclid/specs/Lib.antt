-- What to believe: Euclid, and that it says what Theorems do of divisors and fractions.
pub mod Euclid
