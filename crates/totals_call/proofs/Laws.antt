-- What is proved of the definitions.
pub mod Signing
pub mod Staging
pub mod Refusing
pub mod Calling
pub mod Entering
