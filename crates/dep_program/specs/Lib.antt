pub mod Setup
pub mod Commands
pub mod HostCommands
pub mod Folders
pub mod Clock
pub mod Outcomes
pub mod Gathering
