pub mod Readiness
pub mod Totals
pub mod Acceptors
pub mod Outcomes
