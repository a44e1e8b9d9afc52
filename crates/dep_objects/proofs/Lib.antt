pub mod Puts
pub mod Named
pub mod Pages
pub mod Appending
pub mod AheadTexts
