pub mod Kept
pub mod TickLemmas
pub mod Later
pub mod TickSound
pub mod EmptySound
pub mod Metadatas
pub mod Rooms
