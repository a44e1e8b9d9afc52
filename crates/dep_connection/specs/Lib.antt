pub mod Turns
pub mod Flushing
pub mod Conversation
