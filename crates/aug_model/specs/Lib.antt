pub mod Differences
pub mod Folds
pub mod Keys
pub mod Queries
pub mod NodeKeys
pub mod inside
