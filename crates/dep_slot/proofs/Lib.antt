pub mod PhaseLemmas
pub mod SlotLemmas
mod CountedLemmas
