-- A change of our tables that statements make run by run, where what is left of it is made as a whole.
use Rattle.std.proofs.Common.{◌≡◌, IsTrue, Ok, ap, refl, sym, ◌∙◌}
use Rattle.sqlite.specs.State.{State, HasCleanDisk}
use Rattle.dep_tables.specs.Clauses.{ReadsWithin, Statement, Writes}
use Rattle.dep_tables.specs.Tables.{Tables, tables_of, IsOurs}
use Rattle.dep_tables.proofs.Chains.{Stays, clean_before, stays_ok, stays_put, stays_then, still_ours}
use Rattle.dep_row_maps.specs.Clauses.{ChangesTables}
use Rattle.dep_files.proofs.Results.{same_tables}

module _ {T L : Type 0} (lenders : T → L) (state : T → State) (change : Tables → Tables) where
  -- behind the runs so far our tables are there, and the change makes of them what it would have made at first
  abbrev pub IsOnTheWay : T → T → Type 0
  IsOnTheWay old now = Stays lenders state old now
      × (HasCleanDisk (state now) → IsTrue (state old).in_transaction → IsOurs (state old) → IsOurs (state now) × (change (tables_of (state now)) ≡ change (tables_of (state old))))

module _ {T L : Type 0} {lenders : T → L} {state : T → State} (change : Tables → Tables) where
  -- no run yet
  pub no_run : (tx : T) → IsOnTheWay lenders state change tx tx
  no_run tx = (stays_put lenders state tx _, λ clean inside ours. (ours, refl))

  module _ {old mid seen : T} {A E : Type 0} {x : A} (so_far : IsOnTheWay lenders state change old mid) (saw : ReadsWithin {A = A} {E = E} lenders state mid seen (Ok x)) where
    -- one was seen, and a statement has made its part
    pub one_run : {new : T} {B : Type 0} {y : B} {statement : Statement} → Writes lenders state seen new (Ok y) statement → ((t : Tables) → change (statement.change t) ≡ change t) → IsOnTheWay lenders state change old new
    one_run wrote rest =
        let before = stays_then so_far.0 saw.stays in (
          stays_ok (stays_then before wrote.keeps.stays),
          λ clean inside ours.
              let clean_seen = clean_before wrote.keeps.stays clean in
              let was = so_far.1 (clean_before saw.stays clean_seen) inside ours in
              let same = saw.same clean_seen was.0 in
              let led = wrote.ok clean (before.inside clean_seen inside) (still_ours (state mid) (state seen) same was.0) in
              (led.ours, ap change led.rows ∙ rest (tables_of (state seen)) ∙ ap change (same_tables (state mid) (state seen) same) ∙ was.1),
        )

    -- none was, and nothing is left to be changed
    pub no_more_run : {B : Type 0} {y : B} → (HasCleanDisk (state seen) → IsOurs (state mid) → change (tables_of (state mid)) ≡ tables_of (state mid)) → ChangesTables {A = B} lenders state old seen (Ok y) change
    no_more_run none = record {
      ok = λ clean inside ours.
          let was = so_far.1 (clean_before saw.stays clean) inside ours in
          let same = saw.same clean was.0 in
          record { ours = still_ours (state mid) (state seen) same was.0; rows = same_tables (state mid) (state seen) same ∙ sym (none clean was.0) ∙ was.1 };
      stays = stays_ok (stays_then so_far.0 saw.stays);
    }
