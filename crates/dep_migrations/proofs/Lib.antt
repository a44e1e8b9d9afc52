pub mod Causes
mod MadeTables
mod MadeIndexes
mod Placed
mod BesideRows
pub mod Upgraded
