pub mod Fields
pub mod Names
pub mod Readings
pub mod Faults
pub mod AccessLog
pub mod Configured
pub mod Example
