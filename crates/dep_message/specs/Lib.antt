pub mod Places
pub mod Heads
pub mod Stream
pub mod Giving
pub mod Showing
pub mod Working
