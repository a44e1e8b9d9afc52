pub mod ExampleHeads
pub mod Head
pub mod Lines
pub mod Statuses
