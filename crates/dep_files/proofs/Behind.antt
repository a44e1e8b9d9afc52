-- A call behind another that only read: it sees what that one saw.
use Rattle.std.proofs.Common.{◌≡◌, IsTrue, Result, Ok, sym, subst}
use Rattle.sqlite.specs.State.{State, HasCleanDisk, IsUnchanged}
use Rattle.dep_types.specs.State as machine
use Rattle.dep_tables.specs.Clauses.{MayReadWithin, ReadsWithin, StaysWithin}
use Rattle.dep_tables.specs.Tables.{Tables, tables_of, IsOurs}
use Rattle.dep_tables.proofs.Chains.{clean_before, still_ours}
use Rattle.dep_row_maps.specs.TablesAre.{TablesAre}
use Rattle.dep_files.proofs.Results.{same_tables}

-- they are our tables still, and the state's
pub still_seen : (old new : State) (s : machine.State) → IsUnchanged old new → TablesAre (tables_of old) s → TablesAre (tables_of new) s
still_seen old new s same are = subst (λ (t : Tables). TablesAre t s) (sym (same_tables old new same)) are

-- where a call begins behind one that read the tables of a state
pub record IsBehind (old now : State) (s : machine.State) : Type 0 where
  pub clean : HasCleanDisk now
  pub same : IsUnchanged old now
  pub ours : IsOurs now
  pub tables : tables_of now ≡ tables_of old
  pub are : TablesAre (tables_of now) s

is_behind : (old now : State) → HasCleanDisk now → IsUnchanged old now → IsOurs old → (s : machine.State) → TablesAre (tables_of old) s → IsBehind old now s
is_behind old now clean same ours s are = record { clean = clean; same = same; ours = still_ours old now same ours; tables = same_tables old now same; are = still_seen old now s same are }

module _ {T L : Type 0} {lenders : T → L} {state : T → State} {old mid new : T} {A E B F : Type 0} {x : A} {r : Result B F} where
  pub behind : ReadsWithin {A = A} {E = E} lenders state old mid (Ok x) → StaysWithin lenders state mid new r
      → HasCleanDisk (state new) → IsOurs (state old) → (s : machine.State) → TablesAre (tables_of (state old)) s → IsBehind (state old) (state mid) s
  behind first second clean ours s are =
      let before = clean_before second clean in
      is_behind (state old) (state mid) before (first.same before ours) ours s are

  -- behind one that may have asked nothing
  pub behind_any : MayReadWithin {A = A} {E = E} lenders state old mid (Ok x) → StaysWithin lenders state mid new r → IsTrue (state old).is_open
      → HasCleanDisk (state new) → IsOurs (state old) → (s : machine.State) → TablesAre (tables_of (state old)) s → IsBehind (state old) (state mid) s
  behind_any first second is_open clean ours s are =
      let before = clean_before second clean in
      is_behind (state old) (state mid) before (first.same is_open before ours) ours s are
