mod ConnectionLemmas
pub mod HubLemmas
mod Endings
mod HeldLemmas
mod PartLemmas
mod HoldingLemmas
mod BehindLemmas
pub mod PendingLemmas
mod TurnLemmas
pub mod SourceLemmas
mod KeptLemmas
pub mod PreparingLemmas
mod LookLemmas
mod ManyRowLemmas
