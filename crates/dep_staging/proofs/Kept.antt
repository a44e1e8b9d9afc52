-- Running hashes under the numbers of their uploads.
use Rattle.std.proofs.Common.{◌≡◌, ◌⊎◌, inl, inr, ℕ, Bool, List, [], Contains, Option, Some, nat_eq, sym, ap, subst, ◌∙◌}
use Rattle.std.proofs.lemmas.Bool.{eqb-true}
use Rattle.std.specs.Map.{lookup, remove_entry}
use Rattle.std.specs.Option.{option_map_or}
use Rattle.lru.specs.LruCache.{LruCache, put_entries}
use Rattle.lru.proofs.CallerLemmas.{Contains-lookup, Contains-remove_entry, Contains-put_entries, IsPut}
use Rattle.dep_types.specs.State.{State}
use Rattle.dep_staging.specs.HashedAhead.{AreRunning, IsRunning}
use Rattle.dep_staging.specs.declared.running.RunningHash.{RunningHash}
use Rattle.dep_staging.specs.declared.running.RunningHashes.{RunningHashes}

module _ (s : State) where
  -- whether all of it was hashed is nothing that has to be so
  pub marked : (run : RunningHash) (is_whole : Bool) → IsRunning s run → IsRunning s (record run { is_whole = is_whole })
  marked run is_whole (inl none) = inl (record { segments = none.segments; blocks = none.blocks; holds = none.holds })
  marked run is_whole (inr is) = inr (record {
    given = is.given;
    hashed = λ it there. let h = is.hashed it there in record { holds = h.holds; whole = h.whole; begun = h.begun };
  })

  -- it is of the upload of this number
  abbrev pub IsUnder : ℕ × RunningHash → Type 0
  IsUnder kept = IsRunning s kept.1 × (kept.1.upload ≡ kept.0)

  abbrev pub AreUnder : List (ℕ × RunningHash) → Type 0
  AreUnder es = (kept : ℕ × RunningHash) → Contains es kept → IsUnder kept

  -- those of running hashes that have some
  pub under_some : (runs : RunningHashes) (c : LruCache ℕ RunningHash) → runs.kept ≡ Some c → AreRunning s runs → AreUnder c.entries
  under_some runs c is are = subst (λ (o : Option (LruCache ℕ RunningHash)). AreUnder (option_map_or (λ cache. cache.entries) o [])) is are

  -- one was taken out
  pub under_without : (test : ℕ → Bool) (es : List (ℕ × RunningHash)) → AreUnder es → AreUnder (remove_entry test es)
  under_without test es are kept there = are kept (Contains-remove_entry test es kept there)

  -- it was there
  pub under_found : (upload : ℕ) (es : List (ℕ × RunningHash)) (run : RunningHash) → AreUnder es → lookup (nat_eq upload) es ≡ Some run → IsRunning s run × (run.upload ≡ upload)
  under_found upload es run are found =
      let it = Contains-lookup (nat_eq upload) es run found in
      let was = are (it.0, run) it.1 in
      (was.0, was.1 ∙ sym (eqb-true upload it.0 it.2))

  -- one was put in
  pub under_with : (c : LruCache ℕ RunningHash) (upload : ℕ) (run : RunningHash) → AreUnder c.entries → IsRunning s run → run.upload ≡ upload → AreUnder (put_entries nat_eq c upload run)
  under_with c upload run are running its kept there = go (Contains-put_entries nat_eq c upload run kept there)
    where
      go : Contains c.entries kept ⊎ IsPut nat_eq c upload run kept → IsUnder kept
      go (inl was) = are kept was
      go (inr (same, inl key)) = (subst (IsRunning s) (sym same) running, ap (λ (r : RunningHash). r.upload) same ∙ its ∙ sym key)
      go (inr (same, inr (w, old, key))) = (subst (IsRunning s) (sym same) running, ap (λ (r : RunningHash). r.upload) same ∙ its ∙ eqb-true upload kept.0 key)
