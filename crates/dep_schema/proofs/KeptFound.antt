-- The digests that are kept of files, asked for.
use Rattle.std.proofs.Common.{◌≡◌, ℕ, pos, List, [], ◌∷◌, map, filter, Option, Some, None, subst}
use Rattle.std.specs.List.Sorted.{IsPermutation}
use Rattle.std.proofs.lemmas.List.Sorted.{IsPermutation-sym, IsPermutation-map}
use Rattle.sqlite.proofs.Callers.{one_permutation}
use Rattle.sqlite_trees.proofs.ListLemmas.{map-map}
use Rattle.sqlite.specs.Order.{Row, column}
use Rattle.sqlite.specs.State.{State, Shown}
use Rattle.sqlite.specs.declared.types.Value.{Value}
use Rattle.sqlite.specs.declared.types.Value.TheVariants.{Int, Blob}
use Rattle.dep_tables.specs.Rowids.{has_number}
use Rattle.dep_tables.proofs.Selected.{selects_all, selects_in_order}
use Rattle.dep_tables.proofs.Tests.{passes_key}
use Rattle.dep_tables.specs.Rows.{is_sha512_of, owner_values, value_in}
use Rattle.dep_tables.specs.Schema.{our_schema}
use Rattle.dep_tables.specs.Tables.{tables_of, IsOurs}
use Rattle.dep_tables.specs.Texts.{find_sha512_text, sha256s_of_text}
use Rattle.dep_tables.specs.declared.owner.BlockOwner.{BlockOwner}
use Rattle.dep_tables.proofs.BlocksTable.{tests_owner}
use Rattle.dep_tables.proofs.FilesTable.{sha256s_are}
use Rattle.dep_tables.proofs.Leading.{files_at, sha512s_at}
use Rattle.dep_tables.proofs.Sha512sTable.{find_is}
use Rattle.dep_schema.specs.Fixity.{IsKeptDigest, IsKeptSha512, sha256_rows}

abbrev first : Row → Value
first row = column row 0

-- in any order a value that stands alone stands alone
alone : (xs ys : List Value) → IsPermutation xs ys → (v : Value) → xs ≡ v ∷ [] → ys ≡ v ∷ []
alone xs ys same v is = one_permutation v ys (subst (λ zs. IsPermutation zs ys) is same)

kept_of : (stored shown : List Value) → IsPermutation stored shown → (width : ℕ) (found : Option (List ℕ)) → IsKeptDigest width shown found → IsKeptDigest width stored found
kept_of stored shown same width (Some digest) it = alone shown stored (IsPermutation-sym stored shown same) (Blob digest) it
kept_of stored shown same width None it = λ v is. it v (alone stored shown same v is)

pub finds_kept : (old new : State) (o : BlockOwner) (rows : List Row) (found : Option (List ℕ)) → IsOurs old → Shown find_sha512_text (owner_values o) old new rows
    → IsKeptDigest 64 (map first rows) found → IsKeptSha512 (tables_of old) o found
finds_kept old new o rows found ours shown =
    let stored = filter (is_sha512_of o) (tables_of old).sha512s in
    kept_of (map value_in stored) (map first rows)
    (subst (λ values. IsPermutation values (map first rows)) (map-map first (λ r. value_in r ∷ []) stored)
    (IsPermutation-map first (map (λ r. value_in r ∷ []) stored) rows
    (selects_all our_schema find_sha512_text (owner_values o) old ours.schema 12 sha512s_at.own _ _ (is_sha512_of o) (tests_owner o) new [] find_is rows shown))) 64 found

pub lists_kept : (old new : State) (object : ℕ) (rows : List Row) → IsOurs old → Shown sha256s_of_text (Int (pos object) ∷ []) old new rows → rows ≡ sha256_rows object (tables_of old)
lists_kept old new object rows ours =
    selects_in_order our_schema sha256s_of_text (Int (pos object) ∷ []) old ours.schema 5 files_at.own _ _ (has_number 2 object) (λ row. passes_key object 2 row) new ours.trees.ordered.1.1.1.1.0 sha256s_are rows
