pub mod GatheredLemmas
pub mod CommandLemmas
