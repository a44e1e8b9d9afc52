pub mod Base64
pub mod Promises
pub mod OnLiterals
pub mod Lengths
mod HashedLemmas
