pub mod Addresses
pub mod Serves
pub mod Exports
pub mod Audits
pub mod Reporting
pub mod Reserving
