pub mod AllowedReport
pub mod InTurn
pub mod Theorems
