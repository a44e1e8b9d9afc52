pub mod OpenTables
pub mod States
pub mod Transactions
pub mod Upgrading
pub mod Performing
