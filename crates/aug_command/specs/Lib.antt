pub mod CommandLine
pub mod Faults
pub mod Reading
pub mod inside
