-- The row of the clock and the counters.
use Rattle.std.proofs.Common.{◌≡◌, ℕ, pos, List, [], ◌∷◌, map, Some, Ok, refl, sym, ap, ◌∙◌}
use Rattle.std.specs.Option.{option_map}
use Rattle.sqlite_tied.specs.Compute.{everything}
use Rattle.sqlite.specs.Listing.{understood}
use Rattle.sqlite.specs.Cast.{cast}
use Rattle.sqlite.specs.Kind.TheVariants.{Integer}
use Rattle.sqlite.specs.declared.types.Value.TheVariants.{Null, Int}
use Rattle.sqlite.specs.Order.{Row}
use Rattle.sqlite.specs.Term.{Term, lit, col}
use Rattle.sqlite.specs.State.{State, ExecutesInside, Shown}
use Rattle.dep_tables.specs.Query.{equals, no_limit}
use Rattle.dep_tables.specs.Rowids.{row_at, replaced, columns_from}
use Rattle.dep_tables.proofs.Values.{cast_int, cast_null}
use Rattle.dep_tables.proofs.Tests.{passes_number}
use Rattle.dep_tables.proofs.Written.{IsListed, Updates, updates_keyed}
use Rattle.dep_tables.proofs.Selected.{Asks, selects_keyed}
use Rattle.dep_tables.specs.Schema.{our_schema, state_table}
use Rattle.dep_tables.specs.Texts.{write_state_text, read_state_text}
use Rattle.dep_tables.specs.Rows.{stored_state, state_values, shown_state}
use Rattle.dep_tables.specs.declared.state.StateRow.{StateRow}
use Rattle.dep_tables.specs.Tables.{tables_of, IsOurs, Leads}
use Rattle.dep_tables.proofs.Leading.{leads, listed}
use Rattle.dep_tables.proofs.Answered.{read_one}

abbrev pub state_at : IsListed our_schema 1 1
state_at = listed 1 1 state_table refl (λ trees. refl)

abbrev tests : List Term
tests = equals (col 1 0) (lit (Int (pos 1))) ∷ []

write_is : Updates our_schema write_state_text 1 1 tests (col 1 0 ∷ lit Null ∷ col 0 0 ∷ col 0 1 ∷ col 0 2 ∷ col 0 3 ∷ col 0 4 ∷ [])
unfolding understood everything
write_is = (refl, (refl, refl))

pub writes_state : (old new : State) (r : StateRow) (count : ℕ) → IsOurs old → ExecutesInside 0 write_state_text (state_values r) old new (Ok count)
    → Leads old new (record (tables_of old) { state = replaced (stored_state r) (tables_of old).state })
writes_state old new r count ours h =
    leads old new 1 _ ours
    (updates_keyed our_schema 1 1 state_at write_state_text (state_values r) old new ours.schema ours.trees.ordered.1.0 count h tests _ write_is (pos 1) (Null ∷ state_values r)
    (λ row. passes_number (state_values r) 0 (pos 1) row)
    (λ was keyed. λ i. (ap (cast Integer) keyed ∙ cast_int (pos 1)) i ∷ cast_null i ∷ cast_int (pos r.clock) i ∷ cast_int (pos r.next.object) i ∷ cast_int (pos r.next.file) i
    ∷ cast_int (pos r.next.upload) i ∷ cast_int (pos r.next.change) i ∷ [])) _ refl

abbrev values : List Term
values = col 1 2 ∷ col 1 3 ∷ col 1 4 ∷ col 1 5 ∷ col 1 6 ∷ []

pub read_is : Asks our_schema read_state_text 1 tests values [] no_limit
unfolding understood everything
read_is = record { names = _; is = refl; unlisted = refl; plain = (refl, refl) }

pub reads_state : (old new : State) (r : StateRow) → IsOurs old → (rows : List Row) × Shown read_state_text [] old new rows × (map state_values (r ∷ []) ≡ map (columns_from 0 5) rows)
    → option_map shown_state (row_at (tables_of old).state 1) ≡ Some (state_values r)
reads_state old new r ours read =
    sym (read_one state_values 5 shown_state (λ row. refl) (Some r) (row_at (tables_of old).state 1) read.0
    (selects_keyed our_schema read_state_text [] old ours.schema 1 state_at.own tests values new ours.trees.ordered.1.0 read_is (pos 1) (λ row. passes_number [] 0 (pos 1) row) read.0 read.1) read.2)
