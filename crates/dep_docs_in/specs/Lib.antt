pub mod Faults
pub mod Documents
pub mod Fit
pub mod Ahead
