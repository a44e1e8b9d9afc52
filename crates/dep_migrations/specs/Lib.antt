pub mod Causes
pub mod Texts
pub mod Beside
pub mod FirstTables
pub mod Running
pub mod Making
pub mod Faults
pub mod Upgrading
