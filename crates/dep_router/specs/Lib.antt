pub mod Targets
pub mod Pages
pub mod Places
