pub mod Reuse
