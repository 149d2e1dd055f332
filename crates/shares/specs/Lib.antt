-- What to believe: Shares, and that it says what Theorems do of the lists that were lent, one by one (Lists).
pub mod Shares
pub mod Lists
