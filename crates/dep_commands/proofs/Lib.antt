mod ReservedLemmas
pub mod ServeLemmas
pub mod ReportLemmas
pub mod LineLemmas
pub mod Exported
