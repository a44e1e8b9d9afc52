-- The values of files, one after another.
use Rattle.std.proofs.Common.{◌≡◌, inl, inr, ℕ, ◌<◌, ◌≤◌, ◌+◌, pos, List, [], ◌∷◌, ◌++◌, map, filter, find, Option, Some, None, refl, sym, ap, subst, ◌∙◌, append-nil, append_assoc, arith}
use Rattle.std.specs.List.{AllByRecursion}
use Rattle.std.proofs.lemmas.List.{map-append}
use Rattle.sqlite.specs.declared.types.Value.{Value}
use Rattle.sqlite.specs.declared.types.Value.TheVariants.{Int}
use Rattle.sqlite_trees.specs.Tree.{rowid}
use Rattle.dep_tables.specs.Rowids.{IsOrdered, is_after}
use Rattle.sqlite.specs.State.{State}
use Rattle.dep_tables.specs.Tables.{Tables, tables_of, IsKnown}
use Rattle.dep_schema.proofs.Stills.{IsStill, known_still, tables_still}
use Rattle.dep_tables.specs.declared.sha512s.FileSha512.{FileSha512}
use Rattle.dep_schema.specs.Sha512s.{IsSha512OfFile, IsValueAfter, AreValuesOf, IsReached}
use Rattle.dep_schema.proofs.Walks.{found_after, found_there, next_row, no_row, none_found, row_found}

abbrev key : FileSha512 → Value
key v = Int (pos v.file)

-- These are the values of the files up to a number, and with those behind it of all. There are no more of them than
-- numbers up to it.
pub record AreValuesTo (t : Tables) (values : List FileSha512) (last count : ℕ) : Type 0 where
  pub numbered : map key values ++ map rowid (filter (is_after last) t.files) ≡ map rowid (filter (is_after 0) t.files)
  pub each : AllByRecursion (IsSha512OfFile t) values
  pub reached : IsReached t last
  pub few : count ≤ last

pub no_values : (t : Tables) → AreValuesTo t [] 0 0
no_values t = record { numbered = refl; each = tt; reached = inl refl; few = omega arith }

all_more : {X : Type 0} (P : X → Type 0) (xs : List X) (x : X) → AllByRecursion P xs → P x → AllByRecursion P (xs ++ x ∷ [])
all_more P [] x all its = (its, tt)
all_more P (y ∷ xs) x all its = (all.0, all_more P xs x all.1 its)

one_less : (count last file : ℕ) → count ≤ last → last < file → count + 1 ≤ file
one_less count last file few behind = omega arith

pub one_more : (t : Tables) (values : List FileSha512) (last count : ℕ) (v : FileSha512) → IsOrdered t.files → AreValuesTo t values last count → IsValueAfter t last (Some v) → AreValuesTo t (values ++ v ∷ []) v.file (count + 1)
one_more t values last count v up so_far next =
    let (row, found, is) = row_found v.file (find (is_after last) t.files) next.0 in
    record {
      numbered =
          ap (λ l. l ++ map rowid (filter (is_after v.file) t.files)) (map-append key values (v ∷ []))
          ∙ append_assoc (map key values) (key v ∷ []) (map rowid (filter (is_after v.file) t.files))
          ∙ ap (λ x. map key values ++ x ∷ map rowid (filter (is_after v.file) t.files)) (sym is)
          ∙ ap (λ l. map key values ++ map rowid l) (sym (next_row last v.file row t.files up.0 found is))
          ∙ so_far.numbered;
      each = all_more (IsSha512OfFile t) values v so_far.each next.1;
      reached = inr (row, (found_there (is_after last) row t.files found).1, is);
      few = one_less count last v.file so_far.few (found_after last v.file row t.files found is);
    }

pub all_valued : (t : Tables) (values : List FileSha512) (last count : ℕ) → AreValuesTo t values last count → IsValueAfter t last None → AreValuesOf t values
all_valued t values last count so_far none = record {
  numbered = sym (append-nil (map key values)) ∙ ap (λ l. map key values ++ map rowid l) (sym (no_row last t.files (none_found (find (is_after last) t.files) none.0))) ∙ so_far.numbered;
  each = so_far.each;
}

-- the next value is told where the tables are still as they were at first
pub value_after : (old now : State) (after : ℕ) (found reported : Option FileSha512) → found ≡ reported → IsStill old now → IsKnown old → (IsKnown now → IsValueAfter (tables_of now) after found) → IsValueAfter (tables_of old) after reported
value_after old now after found reported is still known next = subst (λ (t : Tables). IsValueAfter t after reported) (tables_still old now still) (subst (IsValueAfter (tables_of now) after) is (next (known_still old now still known)))
