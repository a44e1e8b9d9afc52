pub mod OnLiterals
pub mod Agreement
pub mod Walk
pub mod OneCivil
pub mod Ascii
