pub mod Growing
pub mod Damaged
pub mod Manifest
pub mod Lengths
pub mod ExampleManifests
pub mod TagFiles
pub mod Reported
