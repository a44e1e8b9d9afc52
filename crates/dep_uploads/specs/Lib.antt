pub mod Expiring
