pub mod Contents
pub mod Names
pub mod Items
pub mod Parts
pub mod Keeping
pub mod FitDocuments
pub mod ShownMetadata
