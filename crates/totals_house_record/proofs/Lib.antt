-- The laws of what the contracts cite, which no reader needs to believe.
pub mod Laws
