pub mod Leaving
mod StepLemmas
pub mod ServingLemmas
mod SendingLemmas
pub mod ShutLemmas
pub mod NextLemmas
pub mod OwingLemmas
pub mod BeginLemmas
