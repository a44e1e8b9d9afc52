-- The blocks of an owner, in the order of part and place.
use Rattle.std.proofs.Common.{◌≡◌, ◌≢◌, ◌⊎◌, inl, inr, ℕ, List, [], ◌∷◌, ◌++◌, map, filter, Result, Ok, Err, refl, sym, ap, ◌∙◌, append-nil, append_assoc}
use Rattle.std.specs.Ordering.{ordering_then}
use Rattle.sqlite_tied.specs.Compute.{everything}
use Rattle.sqlite.specs.Order.{Row, column}
use Rattle.sqlite.specs.Term.{Term, col}
use Rattle.sqlite.specs.Listing.{understood}
use Rattle.sqlite.specs.State.{State, Begins}
use Rattle.sqlite_value.specs.Order.{value_cmp}
use Rattle.sqlite_value.proofs.OrderLemmas.{then-Equal}
use Rattle.dep_tables.specs.Query.{no_limit}
use Rattle.dep_tables.specs.Rowids.{InOrder}
use Rattle.dep_tables.proofs.Selected.{Asks, begins_sorted}
use Rattle.dep_tables.specs.Schema.{our_schema}
use Rattle.dep_tables.specs.Texts.{blocks_of_text}
use Rattle.dep_tables.specs.declared.owner.BlockOwner.{BlockOwner}
use Rattle.dep_tables.specs.Rows.{owner_values, shown_block, is_block_of, by_part_and_place}
use Rattle.dep_tables.specs.Tables.{tables_of, IsOurs}
use Rattle.dep_tables.proofs.Leading.{blocks_at}
use Rattle.dep_tables.proofs.BlocksTable.{of_owner, tests_owner, order, by_place_total}
use Rattle.dep_types.specs.declared.stream_fault.StreamFault.{StreamFault}
use Rattle.dep_types.specs.declared.stream_fault.StreamFault.TheVariants.{Writer, Store, Memory, NoSuchFile}
use Rattle.dep_schema.specs.Sent.{blob_of, joined_blobs, StopsBetween, StopsWithin, SendsSized, BeginsBlocks, SendsBlocks}

joined_both : (xs ys : List Row) → joined_blobs (xs ++ ys) ≡ joined_blobs xs ++ joined_blobs ys
joined_both [] ys = refl
joined_both (x ∷ xs) ys = ap (λ l. blob_of x ++ l) (joined_both xs ys) ∙ sym (append_assoc (blob_of x) (joined_blobs xs) (joined_blobs ys))

no_more : (xs ys : List ℕ) → xs ++ ys ≡ [] → xs ≡ []
no_more [] ys e = refl
no_more (x ∷ xs) ys e = absurd cc

-- of a query each of whose answers has the blocks in order
module _ (sql : List ℕ) (params : Row) (old : State) (stored : List Row) (starts : (given : List Row) → Begins sql params old given → (tail : List Row) × InOrder by_part_and_place (map shown_block stored) (given ++ tail)) where
  between : (sent : List ℕ) → StopsBetween sql params old sent → (sent ≡ []) ⊎ BeginsBlocks stored sent
  between sent h = elim h.begins [
    | inl none ↦ inl (h.sends ∙ ap joined_blobs none)
    | inr begun ↦
        let x = starts h.given begun in
        inr (record { all = h.given ++ x.0; ordered = x.1; rest = joined_blobs x.0; whole = joined_both h.given x.0 ∙ ap (λ (l : List ℕ). l ++ joined_blobs x.0) (sym h.sends) })
  ]

  within : (sent : List ℕ) → StopsWithin sql params old sent → (b : BeginsBlocks stored sent) × (b.rest ≢ [])
  within sent h =
      let x = starts (h.given ++ h.row ∷ []) h.begins in
      let front : joined_blobs (h.given ++ h.row ∷ []) ≡ (joined_blobs h.given ++ h.part) ++ h.short.rest =
      joined_both h.given (h.row ∷ []) ∙ ap (λ (l : List ℕ). joined_blobs h.given ++ l) (append-nil (blob_of h.row) ∙ h.short.joined) ∙ sym (append_assoc (joined_blobs h.given) h.part h.short.rest) in
      let whole : joined_blobs ((h.given ++ h.row ∷ []) ++ x.0) ≡ sent ++ (h.short.rest ++ joined_blobs x.0) =
      joined_both (h.given ++ h.row ∷ []) x.0 ∙ ap (λ (l : List ℕ). l ++ joined_blobs x.0) (front ∙ ap (λ (l : List ℕ). l ++ h.short.rest) (sym h.sends)) ∙ append_assoc sent h.short.rest (joined_blobs x.0) in
      (record { all = (h.given ++ h.row ∷ []) ++ x.0; ordered = x.1; rest = h.short.rest ++ joined_blobs x.0; whole = whole }, λ e. h.short.short (no_more h.short.rest (joined_blobs x.0) e))

  sends : (size : ℕ) (sent : List ℕ) (r : Result (Unit {0}) StreamFault) → SendsSized sql params old size sent r → SendsBlocks stored size sent r
  sends size sent (Ok done) h = (between sent h.0, h.1)
  sends size sent (Err Writer) h = within sent h
  sends size sent (Err Store) h = (between sent h.0, h.1)
  sends size sent (Err Memory) h = (between sent h.0, h.1)
  sends size sent (Err NoSuchFile) h = h

abbrev pub values : List Term
values = col 1 3 ∷ col 1 4 ∷ col 1 5 ∷ []

pub owner_is : Asks our_schema blocks_of_text 10 of_owner values order no_limit
unfolding understood everything
owner_is = record { names = _; is = refl; unlisted = refl; plain = (refl, refl) }

pub sends_owner : (old : State) (o : BlockOwner) (size : ℕ) (sent : List ℕ) (r : Result (Unit {0}) StreamFault) → IsOurs old → SendsSized blocks_of_text (owner_values o) old size sent r
    → SendsBlocks (filter (is_block_of o) (tables_of old).blocks) size sent r
sends_owner old o size sent r ours h =
    sends blocks_of_text (owner_values o) old (filter (is_block_of o) (tables_of old).blocks)
    (λ given begun. begins_sorted our_schema blocks_of_text (owner_values o) old ours.schema 10 blocks_at.own of_owner values (is_block_of o) (tests_owner o) order by_part_and_place by_place_total
    (λ a b. ap (ordering_then (value_cmp (column a 3) (column b 3))) (then-Equal (value_cmp (column a 4) (column b 4)))) owner_is given begun) size sent r h
