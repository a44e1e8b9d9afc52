mod SlashLemmas
mod RowLemmas
mod PathLemmas
mod PartLemmas
mod InsertLemmas
mod EscapeLemmas
mod PlaceLemmas
