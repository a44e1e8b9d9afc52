-- What a call says that reads what a reply shows.
use Rattle.std.specs.Prelude.{◌≡◌, ℕ, Option, Some, None, Result, OnOk, IfOk, IfSome, option_map, option_and_then}
use Rattle.std.specs.FinMap as finmap
use Rattle.sqlite.specs.State as db
use Rattle.sqlite.specs.State.{HasCleanDisk}
use Rattle.dep_types.specs.Rows.{object_row, object_view}
use Rattle.dep_types.specs.Sound.{IsSound}
use Rattle.dep_types.specs.State.{State}
use Rattle.dep_types.specs.declared.rows.ObjectRow.{ObjectRow}
use Rattle.dep_types.specs.declared.rows.ObjectView.{ObjectView}
use Rattle.dep_types.specs.declared.store_fault.StoreFault.{StoreFault}
use Rattle.dep_tables.specs.Clauses.{MayReadWithin}
use Rattle.dep_tables.specs.Tables.{IsOurs}
use Rattle.dep_row_maps.specs.Clauses.{Finds, FromMaps, MayFind}
use Rattle.dep_row_maps.specs.Stored.{HasRow}
use Rattle.dep_answers.specs.ReadSets.{shown_at}
use Rattle.dep_answers.specs.declared.read_set.ReadSet.{ReadSet}
use Rattle.dep_answers.specs.declared.read_set.ReadSet.TheVariants as read_set
use Rattle.dep_answers.specs.declared.read_set.Shown.{Shown}

-- the object of this number is there, and this is all that is told of it
abbrev pub IsViewOf : State → ℕ → ObjectView → Type 0
IsViewOf s n view = Some view ≡ option_map (object_view n) (finmap.get s.objects n)

module _ {T L : Type 0} (lenders : T → L) (state : T → db.State) (old new : T)
    (result : Result Shown StoreFault) (read_set : ReadSet) where
  -- what a call does that reads what a sound state shows of the subject, where this is told of it
  pub record ReadsShown (reported : State → Type 0) : Type 0 where
    pub map : Finds lenders state old new result
        (λ s. IsSound s → reported s → IfOk result (λ shown. shown ≡ shown_at s read_set))

  -- the same of a call that reads, if anything
  pub record MayReadShown (reported : State → Type 0) : Type 0 where
    pub map : MayFind lenders state old new result
        (λ s. IsSound s → reported s → IfOk result (λ shown. shown ≡ shown_at s read_set))
    pub still : HasCleanDisk (state new) → IsOurs (state old)
        → OnOk result ((state new).now ≡ (state old).now)

-- so it is with the object of a row, which is there
abbrev pub ReadsRow : {T L : Type 0} → (read_set : ℕ → ReadSet) → (lenders : T → L)
    → (state : T → db.State) → (old new : T) → Result Shown StoreFault → ObjectRow
    → (reported : State → Type 0) → Type 0
ReadsRow read_set lenders state old new result row reported =
    ReadsShown lenders state old new result (read_set row.object) (λ s. HasRow s row × reported s)

-- the number of the object that is shown, or of which a part is
abbrev pub object_of_read_set : ReadSet → Option ℕ
object_of_read_set (read_set.Object n) = Some n
object_of_read_set (read_set.Payload n) = Some n
object_of_read_set (read_set.Files n) = Some n
object_of_read_set (read_set.ObjectRow n) = Some n
object_of_read_set (read_set.Metadata n) = Some n
object_of_read_set read_set.Nothing = None
object_of_read_set (read_set.File id) = None
object_of_read_set (read_set.Upload u) = None

-- its row, if there is such an object
abbrev pub object_row_read : State → ReadSet → Option ObjectRow
object_row_read s read_set =
    option_and_then (λ n. option_map (object_row n) (finmap.get s.objects n)) (object_of_read_set read_set)

-- what a call does that looks up this row where it isn't known, if anything
pub record MayFindRow {T L : Type 0} (lenders : T → L) (state : T → db.State) (old new : T)
    (result : Result (Option ObjectRow) StoreFault) (read_set : ReadSet) (known : Option ObjectRow)
    : Type 0 where
  pub map : FromMaps (state old) (state new)
      (λ s. IfSome known (HasRow s) → IfOk result (λ row. row ≡ object_row_read s read_set))
  pub keeps : MayReadWithin lenders state old new result
  pub still : HasCleanDisk (state new) → IsOurs (state old)
      → OnOk result ((state new).now ≡ (state old).now)
