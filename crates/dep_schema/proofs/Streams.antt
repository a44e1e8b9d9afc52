-- What was sent of the content of a file.
use Rattle.std.proofs.Common.{◌≡◌, ◌≢◌, ◌⊎◌, inl, inr, ℕ, ◌+◌, ◌<◌, pos, true, cond, List, [], ◌∷◌, ◌++◌, length, filter, Option, Some, None, Result, Ok, Err, refl, sym, ap, subst, ◌∙◌, append-nil, append_assoc, length-append, is_eq, arith}
use Rattle.std.specs.Prelude.{option_map, option_and_then}
use Rattle.std.specs.List.{flat_map}
use Rattle.std.specs.FinMap as finmap
use Rattle.sqlite.specs.State.{IsUnchanged}
use Rattle.sqlite.specs.State as db
use Rattle.sqlite.specs.declared.types.Value.TheVariants.{Int}
use Rattle.sqlite_value.specs.Order.{Row, column, value_cmp}
use Rattle.dep_types.specs.Maps.{Numbered}
use Rattle.dep_types.specs.State.{State, File, file_at}
use Rattle.dep_tables.specs.Rowids.{IsOrdered, row_at}
use Rattle.dep_tables.specs.Rows.{is_block_of}
use Rattle.dep_tables.specs.Tables.{Tables}
use Rattle.dep_tables.specs.declared.owner.BlockOwner.TheVariants as owner
use Rattle.dep_schema.specs.Sent as sent
use Rattle.dep_schema.specs.Sent.{blob_of, BeginsBlocks, SendsBlocks}
use Rattle.dep_types.specs.declared.stream_fault.StreamFault.{StreamFault}
use Rattle.dep_types.specs.declared.stream_fault.StreamFault.TheVariants.{Writer, Store, Memory, NoSuchFile}
use Rattle.dep_row_maps.specs.Owned.{placed}
use Rattle.dep_row_maps.specs.Stored.{block_seen, block_rows, part_rows, blocks_of, file_stored, is_file_of}
use Rattle.dep_row_maps.specs.TablesAre.{TablesAre, files_at, joined_parts}
use Rattle.dep_types.specs.Names.{if_passes}
use Rattle.dep_row_maps.proofs.Files.{free_file, number_itself}
use Rattle.dep_row_maps.proofs.Blocks.{blocks-sorted}
use Rattle.dep_row_maps.proofs.Whole.{file_found_at}
use Rattle.dep_schema.specs.declared.sizes.FileSize.{FileSize}
use Rattle.dep_schema.specs.Sizes.{size_values, shown_size}
use Rattle.dep_types.specs.Streams.{HasContent, HasNoFile, IsPartOfContent, IsStreamed}
use Rattle.sqlite.specs.Given.{IsPlain}
use Rattle.sqlite.specs.Listing.{understood}
use Rattle.dep_types.specs.declared.store_fault.StoreFault.{StoreFault}
use Rattle.dep_tables.specs.Rows.{owner_values}
use Rattle.dep_tables.specs.Texts.{blocks_of_text}
use Rattle.dep_tables.specs.declared.owner.BlockOwner.{BlockOwner}
use Rattle.dep_schema.specs.Causes.{FailsToGiveBlocks}
use Rattle.dep_schema.specs.Causes.FailsToGiveBlocks.{no_owner, not_given}
use Rattle.dep_schema.proofs.SendingLemmas.{gives_from}
use Rattle.dep_files.proofs.Cuts.{blocks_join}
use Rattle.dep_files.proofs.FileCalls.{file_is}

-- ---- the blocks of a file, in order, are its content

joined_both : (xs ys : List Row) → sent.joined_blobs (xs ++ ys) ≡ sent.joined_blobs xs ++ sent.joined_blobs ys
joined_both [] ys = refl
joined_both (x ∷ xs) ys = ap (λ l. blob_of x ++ l) (joined_both xs ys) ∙ sym (append_assoc (blob_of x) (sent.joined_blobs xs) (sent.joined_blobs ys))

placed_joined : (part k : ℕ) (bs : List (List ℕ)) → sent.joined_blobs (placed (block_seen part) k bs) ≡ flat_map (λ b. b) bs
placed_joined part k [] = refl
placed_joined part k (b ∷ bs) = ap (λ l. b ++ l) (placed_joined part (k + 1) bs)

pub parts_joined : (m : Numbered (List ℕ)) → sent.joined_blobs (block_rows m) ≡ joined_parts m
parts_joined m = go (finmap.entries m)
  where
    go : (es : List (ℕ × List ℕ)) → sent.joined_blobs (flat_map (λ e. part_rows e.0 e.1) es) ≡ flat_map (λ e. e.1) es
    go [] = refl
    go (e ∷ es) = joined_both (part_rows e.0 e.1) (flat_map (λ x. part_rows x.0 x.1) es)
        ∙ ap (λ l. l ++ sent.joined_blobs (flat_map (λ x. part_rows x.0 x.1) es)) (placed_joined e.0 0 (blocks_of e.1) ∙ blocks_join e.1) ∙ ap (λ l. e.1 ++ l) (go es)

begun : (t : Tables) (s : State) (n f : ℕ) (file : File) (bytes : List ℕ) → TablesAre t s → file_at s n f ≡ Some file → (b : BeginsBlocks (filter (is_block_of (owner.File f)) t.blocks) bytes) → file.content ≡ bytes ++ b.rest
begun t s n f file bytes h has b =
    sym ((h.common.files_parts.of_files n f file (file_is s n f ∙ has)).joins) ∙ sym (parts_joined (h.common.parts (owner.File f)))
    ∙ ap sent.joined_blobs (sym (blocks-sorted t.blocks h.common.parts h.common.blocks (owner.File f) b.all b.ordered.same b.ordered.sorted)) ∙ b.whole

-- ---- the size of a file

pub record IsSized (s : State) (f : ℕ) (size : ℕ) : Type 0 where
  pub object : ℕ
  pub file : File
  pub held : file_at s object f ≡ Some file
  pub sized : size ≡ length file.content

abbrev pub SizeReported : State → ℕ → Option FileSize → Type 0
SizeReported s f (Some found) = IsSized s f found.size
SizeReported s f None = HasNoFile s f

pub size_reported : (t : Tables) (s : State) (f : ℕ) (found : Option FileSize) → TablesAre t s → IsOrdered t.files → option_map size_values found ≡ option_map shown_size (row_at t.files f) → SizeReported s f found
size_reported t s f found h up read = go found (row_at t.files f) refl read
  where
    of_row : (n size : ℕ) (row : Row) (x : Option File) → size_values (record { object = n; size = size }) ≡ shown_size row → Some row ≡ option_map (file_stored n f) x → (file : File) × (x ≡ Some file) × (size ≡ length file.content)
    of_row n size row None shown e = absurd (cc)
    of_row n size row (Some file) shown e =
        let it : row ≡ file_stored n f file = cc in
        let both : size_values (record { object = n; size = size }) ≡ shown_size (file_stored n f file) = shown ∙ ap shown_size it in
        let same : size ≡ length file.content = cc in (file, refl, same)

    go : (found : Option FileSize) (there : Option Row) → row_at t.files f ≡ there → option_map size_values found ≡ option_map shown_size there → SizeReported s f found
    go None None is e = λ n. sym (file_is s n f) ∙ free_file t.files (files_at s.objects) (files_at s.objects) h.common.files up n f is
    go None (Some row) is e = absurd (cc)
    go (Some z) None is e = absurd (cc)
    go (Some z) (Some row) is e =
        let shown : size_values z ≡ shown_size row = cc in
        let number : column row 2 ≡ Int (pos z.object) = sym (ap (λ (r : Row). column r 0) shown) in
        let its : is_file_of z.object row ≡ true = ap (λ v. is_eq (value_cmp v (Int (pos z.object)))) number ∙ number_itself z.object in
        let found = file_found_at t s h up z.object f in
        let reported : Some row ≡ option_map (file_stored z.object f) (finmap.get (files_at s.objects z.object) f) =
        sym (ap (λ b. cond b (Some row) None) its) ∙ ap (option_and_then (if_passes (is_file_of z.object))) (sym is) ∙ found in
        let it = of_row z.object z.size row (finmap.get (files_at s.objects z.object) f) shown reported in
        record { object = z.object; file = it.0; held = sym (file_is s z.object f) ∙ it.1; sized = it.2 }

-- ---- what was sent

none_after : (xs ys : List ℕ) → length (xs ++ ys) ≡ length xs → ys ≡ []
none_after xs [] e = refl
none_after xs (y ∷ ys) e = absurd (let len = length-append xs (y ∷ ys) in omega (arith, len, e))

more_after : (xs ys : List ℕ) → length xs < length (xs ++ ys) → ys ≢ []
more_after xs ys h e = let len = ap length (ap (λ l. xs ++ l) e ∙ append-nil xs) in omega (arith, h, len)

all_sent : (t : Tables) (s : State) (f size : ℕ) (bytes : List ℕ) → TablesAre t s → IsSized s f size → (bytes ≡ []) ⊎ BeginsBlocks (filter (is_block_of (owner.File f)) t.blocks) bytes
    → length bytes ≡ size → HasContent s f bytes
all_sent t s f size bytes h z sent whole_size = record { object = z.object; file = z.file; held = z.held; is = go sent }
  where
    empty : (xs : List ℕ) → length xs ≡ 0 → xs ≡ []
    empty [] e = refl
    empty (y ∷ ys) e = absurd (omega arith)

    go : (bytes ≡ []) ⊎ BeginsBlocks (filter (is_block_of (owner.File f)) t.blocks) bytes → z.file.content ≡ bytes
    go (inl none) = empty z.file.content (sym z.sized ∙ sym whole_size ∙ ap length none) ∙ sym none
    go (inr b) =
        let whole = begun t s z.object f z.file bytes h z.held b in
        whole ∙ ap (λ l. bytes ++ l) (none_after bytes b.rest (sym (ap length whole) ∙ sym z.sized ∙ sym whole_size)) ∙ append-nil bytes

some_sent : (t : Tables) (s : State) (f size : ℕ) (bytes : List ℕ) → TablesAre t s → IsSized s f size → (bytes ≡ []) ⊎ BeginsBlocks (filter (is_block_of (owner.File f)) t.blocks) bytes
    → length bytes < size → (bytes ≡ []) ⊎ IsPartOfContent s f bytes
some_sent t s f size bytes h z (inl none) less = inl none
some_sent t s f size bytes h z (inr begins) less =
    let whole = begun t s z.object f z.file bytes h z.held begins in
    inr (record { whole = z.file.content; has = record { object = z.object; file = z.file; held = z.held; is = refl }; front = record { rest = begins.rest; joined = whole; short = more_after bytes begins.rest (subst (λ n. length bytes < n) (z.sized ∙ ap length whole) less) } })

pub streamed : (t : Tables) (s : State) (f size : ℕ) (bytes : List ℕ) (result : Result (Unit {0}) StreamFault) → TablesAre t s → IsSized s f size
    → SendsBlocks (filter (is_block_of (owner.File f)) t.blocks) size bytes result → IsStreamed s f bytes result
streamed t s f size bytes (Ok done) h z sent = all_sent t s f size bytes h z sent.0 sent.1
streamed t s f size bytes (Err Writer) h z b =
    record { whole = z.file.content; has = record { object = z.object; file = z.file; held = z.held; is = refl }; front = record { rest = b.0.rest; joined = begun t s z.object f z.file bytes h z.held b.0; short = b.1 } }
streamed t s f size bytes (Err Store) h z sent = some_sent t s f size bytes h z sent.0 sent.1
streamed t s f size bytes (Err Memory) h z sent = some_sent t s f size bytes h z sent.0 sent.1
streamed t s f size bytes (Err NoSuchFile) h z sent = absurd sent

-- what hinders the blocks, where all was as at first
pub blocks_from : (o : BlockOwner) (size : Option ℕ) (first old new : db.State) (fault : StoreFault) → IsPlain (understood first.now.schema blocks_of_text) → IsUnchanged first old → db.Survives first old (λ _. ⊥)
    → FailsToGiveBlocks o size old new fault → FailsToGiveBlocks o size first new fault
blocks_from o size first old new fault plain same kept (no_owner none is) = no_owner none is
blocks_from o size first old new fault plain same kept (not_given failed) = not_given (gives_from blocks_of_text (owner_values o) size first old new fault plain same kept failed)
