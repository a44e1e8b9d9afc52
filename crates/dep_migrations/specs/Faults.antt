-- Why the tables of a new store are not made: a statement fails.
use Rattle.std.specs.Prelude.{ℕ, ◌⊎◌, List, Ok, ◌<◌, [], length, take, slice_index_or}
use Rattle.dep_migrations.specs.Beside.{AreFree, AddsIndexes}
use Rattle.dep_migrations.specs.Causes.{FailsSince}
use Rattle.dep_migrations.specs.Texts.{add_format_text, add_state_text, index_files_text, index_uploads_text, create_texts}
use Rattle.dep_tables.specs.Adding.{AddsAll}
use Rattle.dep_tables.specs.Clauses.{FailsToRun, CommitsNothing}
use Rattle.dep_tables.specs.Schema.{our_tables}
use Rattle.dep_types.specs.declared.store_fault.StoreFault.{StoreFault}
use Rattle.sqlite.specs.State.{State, ExecutesInside}

module _ {T : Type 0} (state : T → State) (old new : T) where
  -- one of the texts that make the tables failed, once those before it had made theirs
  abbrev pub FailsToCreate : StoreFault → Type 0
  FailsToCreate = FailsSince state (λ at now fault. (made : ℕ) × (made < length create_texts)
      × AddsAll (take made our_tables) (state old).now at.now
      × FailsToRun (slice_index_or create_texts made []) [] at now fault) old new

  -- the first statement failed, or behind it the second
  abbrev pub FailsAtEither : (first second : List ℕ) → StoreFault → Type 0
  FailsAtEither first second fault =
      FailsToRun first [] (state old) (state new) fault
      ⊎ FailsSince state (λ at now fault.
      ((count : ℕ) × ExecutesInside 0 first [] (state old) at (Ok count))
      × FailsToRun second [] at now fault) old new fault

  -- the index of the files could not be made, or behind it that of the uploads
  abbrev pub FailsToIndex : StoreFault → Type 0
  FailsToIndex = FailsAtEither index_files_text index_uploads_text

  -- the row of the version could not be added, or behind it that of the state
  abbrev pub FailsToAddRows : StoreFault → Type 0
  FailsToAddRows = FailsAtEither add_format_text add_state_text

module _ {T : Type 0} (state : T → State) (old new : T) where
  -- why no tables are made: a statement failed, as where a name is taken; those that add the rows are run only where
  -- the names were free
  abbrev pub FailsToMake : StoreFault → Type 0
  FailsToMake fault =
      FailsToCreate state old new fault
      ⊎ ((made : T) × AddsAll our_tables (state old).now (state made).now
      × CommitsNothing (state old) (state made)
      × (FailsToIndex state made new fault
      ⊎ (AreFree (state old).now.schema × (found : T)
      × AddsIndexes (state made).now (state found).now
      × CommitsNothing (state made) (state found) × FailsToAddRows state found new fault)))
