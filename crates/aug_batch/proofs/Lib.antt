pub mod FourWays
pub mod SomeKeys
