-- What the contracts cite: walks and distances, and the lengths on the way to them.
pub mod Walks
pub mod Lengths
