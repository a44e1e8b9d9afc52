mod Naming
pub mod Counted
pub mod Chains
pub mod Reported
pub mod Found
pub mod Paths
pub mod Shows
pub mod Sent
pub mod Hashed
pub mod Lacking
