pub mod Encoding
pub mod Written
pub mod FiveLines
mod Beside
pub mod ByPaths
