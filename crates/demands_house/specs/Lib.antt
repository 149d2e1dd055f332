-- What the demands say of house calls: their factors, that they are the lent calls with these, and theorem by theorem what that gives.
pub mod Factors
