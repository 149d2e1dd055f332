-- What is proved of the definitions.
pub mod Key
pub mod Places
pub mod Rising
pub mod Controls
pub mod Answers
pub mod First
pub mod Accepted
pub mod Later
pub mod Alike
pub mod Tester
pub mod AcceptedJob
pub mod AcceptedTotals
pub mod House
pub mod Couplings
pub mod Dropping
