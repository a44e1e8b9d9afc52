pub mod Asking
pub mod Transactions
pub mod Transacting
pub mod Upgraded
mod Performed
