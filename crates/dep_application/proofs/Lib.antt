pub mod StartingLemmas
pub mod ReplayLemmas
pub mod DatabaseLemmas
pub mod ExaminationLemmas
pub mod HostedLemmas
pub mod CalledLemmas
