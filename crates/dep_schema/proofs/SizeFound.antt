-- The object and the size of a file, asked by its number.
use Rattle.std.proofs.Common.{◌≡◌, ℕ, pos, List, [], ◌∷◌, map, Option, refl}
use Rattle.std.specs.Prelude.{option_map}
use Rattle.std.specs.Option.{option_to_list}
use Rattle.sqlite_tied.specs.Compute.{everything}
use Rattle.sqlite.specs.Listing.{understood}
use Rattle.sqlite.specs.Term.{Term, col}
use Rattle.sqlite.specs.State.{State, Shown}
use Rattle.sqlite.specs.declared.types.Value.TheVariants.{Int}
use Rattle.sqlite_value.specs.Order.{Row}
use Rattle.dep_tables.specs.Query.{equals, no_limit}
use Rattle.dep_tables.specs.Rowids.{row_at, columns_from}
use Rattle.dep_tables.proofs.Tests.{passes_key}
use Rattle.dep_tables.proofs.Selected.{Asks, selects_keyed}
use Rattle.dep_tables.specs.Schema.{our_schema}
use Rattle.dep_tables.specs.Tables.{tables_of, IsOurs}
use Rattle.dep_tables.proofs.Leading.{files_at}
use Rattle.dep_tables.proofs.Answered.{read_one}
use Rattle.dep_schema.specs.declared.sizes.FileSize.{FileSize}
use Rattle.dep_schema.specs.Sizes.{find_size_text, size_values, shown_size}

abbrev tests : List Term
tests = equals (col 1 0) (col 0 0) ∷ []

abbrev values : List Term
values = col 1 2 ∷ col 1 5 ∷ []

pub find_is : Asks our_schema find_size_text 5 tests values [] no_limit
unfolding understood everything
find_is = record { names = _; is = refl; unlisted = refl; plain = (refl, refl) }

pub finds_size : (old new : State) (key : ℕ) (found : Option FileSize) (rows : List Row) → IsOurs old → Shown find_size_text (Int (pos key) ∷ []) old new rows → map size_values (option_to_list found) ≡ map (columns_from 0 2) rows
    → option_map size_values found ≡ option_map shown_size (row_at (tables_of old).files key)
finds_size old new key found rows ours shown read =
    read_one size_values 2 shown_size (λ row. refl) found (row_at (tables_of old).files key) rows
    (selects_keyed our_schema find_size_text (Int (pos key) ∷ []) old ours.schema 5 files_at.own tests values new ours.trees.ordered.1.1.1.1.0 find_is (pos key) (λ row. passes_key key 0 row) rows shown) read
