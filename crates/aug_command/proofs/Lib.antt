pub mod CommandLineLemmas
pub mod OptionReads
