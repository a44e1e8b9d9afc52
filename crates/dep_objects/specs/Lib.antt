pub mod Ahead
pub mod Objects
pub mod Texts
