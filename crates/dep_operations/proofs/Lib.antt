mod Checked
mod Repeats
mod Results
pub mod SeenTruly
pub mod Staged
mod Tests
mod Walked
