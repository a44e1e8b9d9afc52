pub mod Fixity
pub mod Faults
pub mod Hashing
pub mod Examples
