pub mod Within
pub mod Close
pub mod Apart
pub mod Normal
pub mod Accuracy
-- and the laws of these definitions, which no reader needs to believe.
pub mod Laws
