-- How far uploads were hashed before a request needs their digests.
use Rattle.std.proofs.Common.{◌≡◌, ◌≢◌, ◌⊎◌, inl, inr, ℕ, zero, suc, ◌+◌, ◌<◌, ◌≤◌, List, [], ◌++◌, unwrap_or, IsTrue, Option, Some, None, Result, Ok, is_some, true, ◌&&◌, refl, sym, ap, subst, ◌∙◌, nat_cmp, append-nil, append_assoc, arith}
use Rattle.std.specs.Prelude.{slice_get}
use Rattle.std.specs.List.{flat_map, list_all, range_with_len}
use Rattle.std.specs.Option.{option_map_or}
use Rattle.std.specs.FinMap as finmap
use Rattle.std.proofs.lemmas.Bool.{cases_lt}
use Rattle.sqlite.specs.State as db
use Rattle.dep_fixity.specs.Fixity.{HashesMessage, digests_of}
use Rattle.dep_fixity.specs.declared.hasher.Digests.{Digests}
use Rattle.dep_types.specs.Maps.{Numbered}
use Rattle.dep_types.specs.Sound.{IsSound}
use Rattle.dep_types.specs.State.{State, Upload}
use Rattle.dep_types.specs.Uploads.{assembled, has_segment, is_complete}
use Rattle.dep_types.specs.declared.rows.UploadRow.{UploadRow}
use Rattle.dep_types.specs.declared.store_fault.StoreFault.{StoreFault}
use Rattle.dep_tables.specs.Clauses.{MayReadWithin}
use Rattle.dep_row_maps.specs.Clauses.{OverMaps, ReadsOver}
use Rattle.dep_files.proofs.Behind.{behind_any}
use Rattle.dep_files.proofs.Cuts.{one_block_more, all_blocks}
use Rattle.dep_row_maps.specs.Laws.{HasSegmentsWithin}
use Rattle.dep_row_maps.specs.Stored.{blocks_of}
use Rattle.dep_row_maps.proofs.Whole.{segments_there}
use Rattle.dep_staging.specs.Comparing.{stored_bytes}
use Rattle.dep_staging.specs.Hashing.{AreDigestsOfUpload}
use Rattle.dep_staging.specs.HashedAhead.{segment_bytes, segment_bytes_from, first_blocks, WasReceived, HasGoneOn, HasHashed, HasHashedNothing, IsRunning}
use Rattle.dep_staging.specs.declared.running.RunningHash.{RunningHash}
use Rattle.dep_staging.proofs.StoredBlocks.{got_by, past_by, within_by}

-- ---- segments, one after another

one_segment_more : (g : ℕ → List ℕ) (first n : ℕ) → flat_map g (range_with_len first (n + 1)) ≡ flat_map g (range_with_len first n) ++ g (first + n)
one_segment_more g first zero = append-nil (g first) ∙ ap g (omega arith)
one_segment_more g first (suc n) =
    let next : first + 1 + n ≡ first + suc n = omega arith in
    let longer : suc n + 1 ≡ suc (n + 1) = omega arith in
    ap (λ m. flat_map g (range_with_len first m)) longer ∙ ap (λ l. g first ++ l) (one_segment_more g (first + 1) n ∙ ap (λ k. flat_map g (range_with_len (first + 1) n) ++ g k) next)
    ∙ sym (append_assoc (g first) (flat_map g (range_with_len (first + 1) n)) (g (first + suc n)))

same_from : (g h : ℕ → List ℕ) (first n : ℕ) → ((k : ℕ) → first ≤ k → k < first + n → g k ≡ h k) → flat_map g (range_with_len first n) ≡ flat_map h (range_with_len first n)
same_from g h first zero same = refl
same_from g h first (suc n) same =
    let here = same first (omega arith) (omega arith) in
    let rest = same_from g h (first + 1) n (λ k low high. same k (omega (arith, low)) (omega (arith, high))) in
    λ i. here i ++ rest i

-- ---- what was hashed

no_block : (i : ℕ) → slice_get (blocks_of []) i ≡ None
unfolding blocks_of
no_block i = refl

-- a segment that has a block was received
has_come : (segments : Numbered (List ℕ)) (k i : ℕ) (block : List ℕ) → slice_get (blocks_of (segment_bytes segments k)) i ≡ Some block → WasReceived segments k
has_come segments k i block is = go (finmap.get segments k) refl
  where
    go : (o : Option (List ℕ)) → finmap.get segments k ≡ o → WasReceived segments k
    go None none = absurd (let found = sym (no_block i) ∙ ap (λ x. slice_get (blocks_of (unwrap_or x [])) i) (sym none) ∙ is in cc found)
    go (Some bytes) there = (bytes, there)

module _ (segments : Numbered (List ℕ)) (was now : RunningHash) (h : HasHashed segments was) where
  -- one block more
  pub block_more : (block : List ℕ) → slice_get (blocks_of (segment_bytes segments (was.segments + 1))) was.blocks ≡ Some block
      → ((message : List ℕ) → HashesMessage was.hasher message → HashesMessage now.hasher (message ++ block)) → now.segments ≡ was.segments → now.blocks ≡ was.blocks + 1 → HasHashed segments now
  block_more block is grows same next =
      let bytes = segment_bytes segments (was.segments + 1) in
      let front = segment_bytes_from segments 1 was.segments in
      let more = one_block_more bytes was.blocks block (within_by (blocks_of bytes) was.blocks block is) (sym (got_by (blocks_of bytes) was.blocks block [] is)) in
      let whole : front ++ (first_blocks was.blocks bytes ++ block) ≡ segment_bytes_from segments 1 now.segments ++ first_blocks now.blocks (segment_bytes segments (now.segments + 1)) =
      ap (λ l. front ++ l) more ∙ ap (λ n. front ++ first_blocks n bytes) (sym next) ∙ ap (λ n. segment_bytes_from segments 1 n ++ first_blocks now.blocks (segment_bytes segments (n + 1))) (sym same) in
      record {
        holds = subst (HashesMessage now.hasher) (append_assoc front (first_blocks was.blocks bytes) block ∙ whole) (grows _ h.holds);
        whole = λ k low high. h.whole k low (omega (arith, high, same));
        begun = λ some. subst (λ n. WasReceived segments (n + 1)) (sym same) (has_come segments (was.segments + 1) was.blocks block is);
      }

  -- the segment has no more
  pub segment_done : slice_get (blocks_of (segment_bytes segments (was.segments + 1))) was.blocks ≡ None → was.blocks ≢ 0
      → now.hasher ≡ was.hasher → now.segments ≡ was.segments + 1 → now.blocks ≡ 0 → HasHashed segments now
  segment_done none some kept next over =
      let bytes = segment_bytes segments (was.segments + 1) in
      let front = segment_bytes_from segments 1 was.segments in
      let all = all_blocks bytes was.blocks (past_by (blocks_of bytes) was.blocks none) in
      let joined : segment_bytes_from segments 1 (was.segments + 1) ≡ front ++ bytes = one_segment_more (segment_bytes segments) 1 was.segments ∙ ap (λ k. front ++ segment_bytes segments k) (omega arith) in
      let whole : front ++ first_blocks was.blocks bytes ≡ segment_bytes_from segments 1 now.segments ++ first_blocks now.blocks (segment_bytes segments (now.segments + 1)) =
      ap (λ l. front ++ l) all ∙ sym joined ∙ ap (segment_bytes_from segments 1) (sym next) ∙ sym (append-nil (segment_bytes_from segments 1 now.segments)) ∙ ap (λ n. segment_bytes_from segments 1 now.segments ++ first_blocks n (segment_bytes segments (now.segments + 1))) (sym over) in
      record {
        holds = subst (λ x. HashesMessage x (segment_bytes_from segments 1 now.segments ++ first_blocks now.blocks (segment_bytes segments (now.segments + 1)))) (sym kept) (subst (HashesMessage was.hasher) whole h.holds);
        whole = λ k low high. reached k low (cases_lt was.segments k) (omega (arith, high, next));
        begun = λ begun. absurd (begun over);
      }
    where
      reached : (k : ℕ) → 1 ≤ k → (was.segments < k) ⊎ (k ≤ was.segments) → k ≤ was.segments + 1 → WasReceived segments k
      reached k low (inl above) high = subst (WasReceived segments) (omega (arith, above, high)) (h.begun some)
      reached k low (inr within) high = h.whole k low within

-- segments that stay were hashed
pub still_hashed : (before after : Numbered (List ℕ)) (run : RunningHash) → ((k : ℕ) (bytes : List ℕ) → finmap.get before k ≡ Some bytes → finmap.get after k ≡ Some bytes)
    → HasHashed before run → HasHashed after run
still_hashed before after run stay h = record {
  holds = subst (HashesMessage run.hasher) (λ i. front i ++ part run.blocks refl i) h.holds;
  whole = λ k low high. let it = h.whole k low high in (it.0, stay k it.0 it.1);
  begun = λ some. let it = h.begun some in (it.0, stay _ it.0 it.1);
}
  where
    kept : (k : ℕ) → WasReceived before k → segment_bytes before k ≡ segment_bytes after k
    kept k it = ap (λ o. unwrap_or o []) (it.1 ∙ sym (stay k it.0 it.1))

    front : segment_bytes_from before 1 run.segments ≡ segment_bytes_from after 1 run.segments
    front = same_from (segment_bytes before) (segment_bytes after) 1 run.segments (λ k low high. kept k (h.whole k low (omega (arith, high))))

    part : (n : ℕ) → run.blocks ≡ n → first_blocks n (segment_bytes before (run.segments + 1)) ≡ first_blocks n (segment_bytes after (run.segments + 1))
    part zero is = refl
    part (suc n) is = ap (first_blocks (suc n)) (kept (run.segments + 1) (h.begun (λ none. let no = sym is ∙ none in cc no)))

-- ---- what is running

-- nothing of an upload is hashed at first
pub nothing_hashed : (segments : Numbered (List ℕ)) (run : RunningHash) → HasHashedNothing run → HasHashed segments run
nothing_hashed segments run fresh = record {
  holds = subst (HashesMessage run.hasher) (sym (λ i. segment_bytes_from segments 1 (fresh.segments i) ++ first_blocks (fresh.blocks i) (segment_bytes segments (run.segments + 1)))) fresh.holds;
  whole = λ k low high. let none = fresh.segments in absurd (omega (arith, low, high, none));
  begun = λ some. absurd (some fresh.blocks);
}

pub running_at : (s : State) (run : RunningHash) (it : Upload) → IsRunning s run → finmap.get s.uploads run.upload ≡ Some it → HasHashed it.segments run
running_at s run it (inl fresh) there = nothing_hashed it.segments run fresh
running_at s run it (inr begun) there = begun.hashed it there

module _ (s : State) (sound : IsSound s) (was now : RunningHash) (running : IsRunning s was) (same : now.upload ≡ was.upload) where
  its_bytes : (it : Upload) (k : ℕ) → finmap.get s.uploads was.upload ≡ Some it → stored_bytes s was.upload k ≡ segment_bytes it.segments k
  its_bytes it k there = ap (λ m. segment_bytes m k) (segments_there s.uploads was.upload it there)

  hashed_now : ((it : Upload) → finmap.get s.uploads was.upload ≡ Some it → HasHashed it.segments now) → (it : Upload) → finmap.get s.uploads now.upload ≡ Some it → HasHashed it.segments now
  hashed_now hashed it there = hashed it (ap (finmap.get s.uploads) (sym same) ∙ there)

  pub block_taken : (block : List ℕ) → slice_get (blocks_of (stored_bytes s was.upload (was.segments + 1))) was.blocks ≡ Some block
      → ((message : List ℕ) → HashesMessage was.hasher message → HashesMessage now.hasher (message ++ block)) → now.segments ≡ was.segments → now.blocks ≡ was.blocks + 1 → IsRunning s now
  block_taken block is grows kept next = go (finmap.get s.uploads was.upload) refl
    where
      go : (o : Option Upload) → finmap.get s.uploads was.upload ≡ o → IsRunning s now
      go None none =
          let nothing : stored_bytes s was.upload (was.segments + 1) ≡ [] =
          ap (λ (o : Option Upload). unwrap_or (finmap.get (option_map_or (λ it. it.segments) o finmap.empty) (was.segments + 1)) []) none
          ∙ ap (λ (o : Option (List ℕ)). unwrap_or o []) (finmap.get-empty nat_cmp (was.segments + 1)) in
          absurd (let found = sym (no_block was.blocks) ∙ ap (λ bytes. slice_get (blocks_of bytes) was.blocks) (sym nothing) ∙ is in cc found)
      go (Some it) there = inr (record {
        given = subst (λ u. u < s.next.upload) (sym same) (sound.uploads was.upload it there).number_given.below;
        hashed = hashed_now (λ other found. block_more other.segments was now (running_at s was other running found) block
            (ap (λ bytes. slice_get (blocks_of bytes) was.blocks) (sym (its_bytes other (was.segments + 1) found)) ∙ is) grows kept next);
      })

  pub segment_ended : slice_get (blocks_of (stored_bytes s was.upload (was.segments + 1))) was.blocks ≡ None → was.blocks ≢ 0
      → now.hasher ≡ was.hasher → now.segments ≡ was.segments + 1 → now.blocks ≡ 0 → IsRunning s now
  segment_ended none some kept next over = go running
    where
      go : IsRunning s was → IsRunning s now
      go (inl fresh) = absurd (some fresh.blocks)
      go (inr begun) = inr (record {
        given = subst (λ u. u < s.next.upload) (sym same) begun.given;
        hashed = hashed_now (λ it there. segment_done it.segments was now (begun.hashed it there)
            (ap (λ bytes. slice_get (blocks_of bytes) was.blocks) (sym (its_bytes it (was.segments + 1) there)) ∙ none) some kept next over);
      })

-- ---- the rest of an upload

-- a content of no bytes has no blocks
pub no_first_blocks : (n : ℕ) → first_blocks n [] ≡ []
unfolding blocks_of
no_first_blocks zero = refl
no_first_blocks (suc n) = refl

-- all its segments were hashed
pub whole_hashed : (it : Upload) (run : RunningHash) → HasSegmentsWithin it → HasHashed it.segments run → run.segments ≡ it.count → HashesMessage run.hasher (assembled it)
whole_hashed it run within h all =
    subst (HashesMessage run.hasher) (ap (λ l. segment_bytes_from it.segments 1 run.segments ++ l) (behind (finmap.get it.segments (run.segments + 1)) refl) ∙ append-nil (segment_bytes_from it.segments 1 run.segments) ∙ ap (segment_bytes_from it.segments 1) all) h.holds
  where
    behind : (o : Option (List ℕ)) → finmap.get it.segments (run.segments + 1) ≡ o → first_blocks run.blocks (unwrap_or o []) ≡ []
    behind None none = no_first_blocks run.blocks
    behind (Some bytes) there = absurd (let few = (within (run.segments + 1) bytes there).1 in omega (arith, few, all))

all_received : (it : Upload) (first n : ℕ) → ((k : ℕ) → first ≤ k → k < first + n → WasReceived it.segments k) → list_all (has_segment it) (range_with_len first n) ≡ true
all_received it first zero received = refl
all_received it first (suc n) received =
    let here : has_segment it first ≡ true = ap is_some (received first (omega arith) (omega arith)).1 in
    let rest = all_received it (first + 1) n (λ k low high. received k (omega (arith, low)) (omega (arith, high))) in
    ap (λ b. b && list_all (has_segment it) (range_with_len (first + 1) n)) here ∙ rest

-- so it lacks none
pub lacks_none : (s : State) (it : Upload) (run : RunningHash) → IsRunning s run → finmap.get s.uploads run.upload ≡ Some it → run.segments ≡ it.count → is_complete it ≡ true
lacks_none s it run running there all =
    let h = running_at s run it running there in
    all_received it 1 it.count (λ k low high. h.whole k low (omega (arith, high, all)))

pub digests_reported : (s : State) (row : UploadRow) (run : RunningHash) (digests : Digests) → IsSound s → IsRunning s run → run.upload ≡ row.upload → run.segments ≡ row.count
    → ((message : List ℕ) → HashesMessage run.hasher message → digests ≡ digests_of message) → AreDigestsOfUpload s row digests
digests_reported s row run digests sound running its whole reported it there same =
    let at = ap (finmap.get s.uploads) its ∙ there in
    reported (assembled it) (whole_hashed it run (λ k bytes found. let w = (sound.uploads run.upload it at).segments k bytes found in (w.0, w.1)) (running_at s run it running at) (whole ∙ same))

-- a step that goes on with a hash, behind calls that only read and have gone on with it
module _ {T L : Type 0} {lenders : T → L} {state : T → db.State} {old mid new : T} {A E B : Type 0} {x : A} {r : Result B StoreFault} {first so_far now : RunningHash} where
  pub gone_on : MayReadWithin {A = A} {E = E} lenders state old mid (Ok x) → (IsTrue (state old).is_open → OverMaps (state old) (state mid) (λ s. IsSound s → IsRunning s first → HasGoneOn s first so_far))
      → ReadsOver lenders state mid new r (λ s. IsSound s → IsRunning s so_far → HasGoneOn s so_far now)
      → IsTrue (state old).is_open → OverMaps (state old) (state new) (λ s. IsSound s → IsRunning s first → HasGoneOn s first now)
  gone_on reads before step is_open clean ours s are sound running =
      let seen = behind_any reads step.keeps.stays is_open clean ours s are in
      let was = before is_open seen.clean ours s are sound running in
      let more = step.map clean seen.ours s seen.are sound was.0 in
      (more.0, more.1 ∙ was.1)
