-- What the statements of an upgrade make of the tables, and why one fails.
use Rattle.std.specs.Prelude.{◌≡◌, ◌⊎◌, List, ◌<◌, [], ◌^◌, Contains}
use Rattle.dep_migrations.specs.Beside.{AreNewNamesFree}
use Rattle.dep_migrations.specs.Causes.{FailsSince}
use Rattle.dep_migrations.specs.Faults.{FailsToIndex}
use Rattle.dep_migrations.specs.Texts.{create_sha512s_text}
use Rattle.dep_row_maps.specs.Owned.{put_each}
use Rattle.dep_row_maps.specs.Sha512s.{value_rows}
use Rattle.dep_tables.specs.Adding.{Adds}
use Rattle.dep_tables.specs.Clauses.{FailsToRun, CommitsNothing}
use Rattle.dep_tables.specs.Rows.{sha512_values}
use Rattle.dep_tables.specs.Schema.{sha512s_table}
use Rattle.dep_tables.specs.Tables.{Tables}
use Rattle.dep_tables.specs.Texts.{insert_sha512_text, write_version_text}
use Rattle.dep_tables.specs.declared.sha512s.FileSha512.{FileSha512}
use Rattle.dep_types.specs.declared.store_fault.StoreFault.{StoreFault}
use Rattle.dep_types.specs.declared.store_fault.StoreFault.TheVariants.{Store}
use Rattle.sqlite.specs.State as db
use Rattle.dep_tables.specs.declared.owner.BlockOwner.TheVariants as owner

-- the table `sha512s` is there, and empty
abbrev pub with_no_sha512s : Tables → Tables
with_no_sha512s t = record t { sha512s = [] }

-- these values are put in, one after another
abbrev pub with_sha512s : List FileSha512 → Tables → Tables
with_sha512s values t = record t { sha512s = put_each (value_rows values) t.sha512s }

-- one of these values could not be put in: the number of its file is none of SQL's, or the statement failed
pub data FailsToPut (values : List FileSha512) (at new : db.State) (fault : StoreFault) : Type 0 where
  no_number : (v : FileSha512) → Contains values v → ¬ (v.file < 2 ^ 63) → fault ≡ Store
      → FailsToPut values at new fault
  not_put : (v : FileSha512) → Contains values v
      → FailsToRun insert_sha512_text (sha512_values (owner.File v.file) v.value) at new fault
      → FailsToPut values at new fault

-- one of them could not, or the version not be written
abbrev pub FailsToFill : List FileSha512 → (at new : db.State) → StoreFault → Type 0
FailsToFill values at new fault =
    FailsToPut values at new fault ⊎ FailsToRun write_version_text [] at new fault

module _ {T : Type 0} (state : T → db.State) (old new : T) where
  -- the table `sha512s` could not be made, or behind it one of the indexes
  abbrev pub FailsToExtend : StoreFault → Type 0
  FailsToExtend fault =
      FailsToRun create_sha512s_text [] (state old) (state new) fault
      ⊎ ((made : T) × Adds sha512s_table (state old).now (state made).now
      × CommitsNothing (state old) (state made) × FailsToIndex state made new fault)

  -- One of the statements of an upgrade failed: one that makes what version 2 has beside version 1, as where a name is
  -- taken; or the names were free, and one behind them failed.
  abbrev pub FailsToRewrite : List FileSha512 → StoreFault → Type 0
  FailsToRewrite values fault =
      FailsToExtend fault
      ⊎ (AreNewNamesFree (state old).now.schema × FailsSince state (FailsToFill values) old new fault)
