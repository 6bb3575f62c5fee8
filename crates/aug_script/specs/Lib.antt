pub mod Devices
pub mod FaultText
pub mod Limits
pub mod Replies
pub mod ReportText
pub mod Script
pub mod inside
