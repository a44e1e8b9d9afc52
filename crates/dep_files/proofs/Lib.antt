pub mod Results
pub mod Behind
pub mod RunByRun
pub mod Cuts
pub mod Written
pub mod FileCalls
pub mod FileValues
pub mod AheadFiles
