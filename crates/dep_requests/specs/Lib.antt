pub mod Reported
pub mod Changed
pub mod Clauses
pub mod Known
pub mod Performing
pub mod Caching
