pub mod LiveErrors
pub mod Carrying
pub mod Ledgers
pub mod LiveHandles
pub mod LiveTries
pub mod Plans
pub mod inside
