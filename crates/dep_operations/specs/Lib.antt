pub mod Checks
pub mod Rules
pub mod Rulings
pub mod Seen
pub mod Views
pub mod Walks
