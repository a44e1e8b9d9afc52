pub mod ConnectionStates
pub mod Causes
pub mod Slots
pub mod Notes
