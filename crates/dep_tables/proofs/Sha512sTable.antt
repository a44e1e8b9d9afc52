-- The SHA-512 values of the files, and those that uploads promised.
use Rattle.std.proofs.Common.{◌≡◌, ℕ, pos, List, [], ◌∷◌, false, Ok, codes, refl}
use Rattle.std.specs.List.{list_any}
use Rattle.sqlite_tied.specs.Compute.{everything}
use Rattle.sqlite.specs.Listing.{understood}
use Rattle.sqlite.specs.Rowids.TheVariants.{Chosen}
use Rattle.sqlite.specs.Term.{lit, col}
use Rattle.sqlite.specs.State.{State, ExecutesInside}
use Rattle.sqlite.specs.declared.types.Value.TheVariants.{Null, Blob}
use Rattle.sqlite_rules.specs.Edit.{with_rowid}
use Rattle.dep_tables.specs.Query.{no_limit}
use Rattle.dep_tables.specs.Rowids.{put_next}
use Rattle.dep_tables.proofs.Values.{cast_int, cast_null}
use Rattle.dep_tables.proofs.Unique.{IsKey}
use Rattle.dep_tables.proofs.Written.{Inserts, Deletes, inserts_next}
use Rattle.dep_tables.proofs.Selected.{Asks}
use Rattle.dep_tables.specs.Schema.{our_schema, sha512s_table}
use Rattle.dep_tables.specs.Texts.{insert_sha512_text, delete_sha512_text, find_sha512_text}
use Rattle.dep_tables.specs.declared.owner.BlockOwner.{BlockOwner}
use Rattle.dep_tables.specs.Rows.{owner_kind, owner_number, sha512_values, is_sha512_of}
use Rattle.dep_tables.specs.Tables.{tables_of, IsOurs, Leads}
use Rattle.dep_tables.proofs.OneTable.{two_agree}
use Rattle.dep_tables.proofs.Leading.{leads, sha512s_at}
use Rattle.dep_tables.proofs.BlocksTable.{of_owner}

insert_is : Inserts our_schema insert_sha512_text 9 (lit Null ∷ col 0 0 ∷ col 0 1 ∷ col 0 2 ∷ [])
unfolding understood everything
insert_is = (refl, (refl, refl))

key : IsKey our_schema sha512s_table (1 ∷ 2 ∷ [])
key = record { name = codes "sqlite_autoindex_sha512s_1"; tree = 13; at = 3; listed = refl; guards_it = refl }

pub inserts_sha512 : (old new : State) (o : BlockOwner) (value : List ℕ) (count : ℕ) → IsOurs old → ExecutesInside 0 insert_sha512_text (sha512_values o value) old new (Ok count)
    → Leads old new (record (tables_of old) { sha512s = put_next (sha512_values o value) (tables_of old).sha512s }) × (list_any (is_sha512_of o) (tables_of old).sha512s ≡ false)
inserts_sha512 old new o value count ours h =
    let made = inserts_next our_schema 9 12 sha512s_at insert_sha512_text (sha512_values o value) old new ours.schema ours.trees.ordered.1.1.1.1.1.1.1.1.1.0 count h _ insert_is (sha512_values o value)
    (λ i. with_rowid Chosen (old.now.trees 12) (cast_null i ∷ cast_int (pos (owner_kind o)) i ∷ cast_int (pos (owner_number o)) i ∷ Blob value ∷ []) ∷ [])
    (1 ∷ 2 ∷ []) key (is_sha512_of o) (two_agree (owner_kind o) (owner_number o) (Blob value ∷ [])) in
    (leads old new 12 _ ours made.0 _ refl, made.1)

pub delete_is : Deletes our_schema delete_sha512_text 9 12 of_owner
unfolding understood everything
delete_is = (refl, (refl, refl))

pub find_is : Asks our_schema find_sha512_text 12 of_owner (col 1 3 ∷ []) [] no_limit
unfolding understood everything
find_is = record { names = _; is = refl; unlisted = refl; plain = (refl, refl) }
