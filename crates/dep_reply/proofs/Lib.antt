pub mod OnLiterals
pub mod LineLemmas
pub mod BaseLemmas
