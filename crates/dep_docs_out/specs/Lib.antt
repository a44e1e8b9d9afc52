pub mod Made
pub mod Json
pub mod Documents
pub mod Segments
pub mod ExampleDocuments
pub mod ReadBack
