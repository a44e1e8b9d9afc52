pub mod Head
pub mod Spans
pub mod Faults
pub mod Marks
