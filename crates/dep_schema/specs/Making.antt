-- What the calls say that make the tables of a new store where there are none, and else find those that there are.
use Rattle.std.specs.Prelude.{◌≡◌, ◌≢◌, ℕ, IsTrue, Result, Option, None, Some, MatchOption, MatchResult}
use Rattle.sqlite.specs.State.{State, HasCleanDisk}
use Rattle.sqlite.specs.Held.{Held, state}
use Rattle.sqlite_trees.specs.declared.store.Store.{Ghosts}
use Rattle.dep_tables.specs.Tables.{tables_of, IsKnown}
use Rattle.dep_tables.specs.Versions.{our_version, older_version, HasVersion}
use Rattle.dep_migrations.specs.Beside.{LacksFormat}
use Rattle.dep_migrations.specs.FirstTables.{no_schema, new_store_tables, SeesTables, GainsOurs}
use Rattle.dep_schema.specs.Openable.{HasKnownVersion}
use Rattle.dep_schema.specs.OpenFaults.{ShowsNone, ShowsVersion, FailsToFind, ShowsOrMakes, FailsToFindOrMake}
use Rattle.dep_schema.specs.declared.opening.OpenFault.{OpenFault}
use Rattle.dep_schema.specs.declared.opening.OpenFault.TheVariants as open_fault

-- inside a transaction, the tables were made where there is no `format`, or are of this version as they were
pub record AreMade (start last : State) (version : ℕ) : Type 0 where
  pub empty : HasCleanDisk last → IsTrue start.in_transaction → start.now.schema ≡ no_schema
      → SeesTables last new_store_tables
  pub gains : HasCleanDisk last → IsTrue start.in_transaction → LacksFormat start.now.schema
      → GainsOurs start.now last.now
  pub new : HasCleanDisk last → LacksFormat start.now.schema → version ≡ our_version
  pub ours : HasCleanDisk last → IsKnown start
      → HasVersion version (tables_of start) × (last.now ≡ start.now)
  -- what has version 1 is left as it is
  pub still : HasCleanDisk last → version ≡ older_version → last.now ≡ start.now

module _ (old new : State) (result : Result (Option ℕ) OpenFault) where
  -- with no `format` no version is found
  abbrev pub FindsNone : Type 0
  FindsNone = HasCleanDisk new → LacksFormat old.now.schema
      → MatchResult result (λ found. found ≡ None) (λ fault. fault ≢ open_fault.UnknownVersion)

  -- with the tables of one of our versions it is found where it is known
  abbrev pub FindsKnown : Type 0
  FindsKnown = HasCleanDisk new → IsKnown old → MatchResult result
      (λ found. (version : ℕ) × (found ≡ Some version) × HasVersion version (tables_of old))
      (λ fault. fault ≡ open_fault.UnknownVersion → HasKnownVersion (tables_of old) → ⊥)

  -- by what the query for the version showed, or why it failed
  abbrev pub FindsShown : Type 0
  FindsShown = HasCleanDisk new → MatchResult result
      (λ found. MatchOption found (ShowsNone old new) (ShowsVersion old new)) (FailsToFind old new)

-- inside a transaction, why there are tables of the version that is returned, or why there are none
abbrev pub FindsOrMakes : {S : Type 0} (g : Ghosts S) (old new : Held S) → Result ℕ OpenFault → Type 0
FindsOrMakes g old new result = HasCleanDisk (state g new) → IsTrue (state g old).in_transaction
    → MatchResult result (ShowsOrMakes g old) (FailsToFindOrMake g old new)
