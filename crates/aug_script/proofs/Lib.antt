pub mod DeviceLemmas
pub mod Fields
pub mod LimitTests
pub mod Lines
pub mod Numbers
pub mod OnLiterals
mod ReaderLemmas
pub mod RecordLemmas
pub mod Rows
pub mod Runnable
pub mod TableWords
pub mod Updates
