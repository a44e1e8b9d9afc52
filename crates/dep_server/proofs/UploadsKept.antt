-- What each segment that is received keeps of an upload, a run keeps of it for as long as the upload is there.
use Rattle.std.proofs.Common.{◌≡◌, ◌≢◌, ◌⊎◌, inl, inr, ℕ, ◌==◌, ◌+◌, Bool, true, false, not, cond, List, Option, Some, None, refl, sym, ap, subst, ◌∙◌, arith}
use Rattle.std.specs.FinMap as map
use Rattle.std.proofs.lemmas.Bool.{eqb-true, eq-eqb}
use Rattle.dep_types.specs.Maps.{Numbered}
use Rattle.dep_types.specs.State.{State, Upload, tick, expires, clock_at}
use Rattle.dep_types.specs.Sound.{IsSound, IsGiven}
use Rattle.dep_types.specs.declared.config.Config.{Config}
use Rattle.dep_types.proofs.Kept.{get-insert_same, get-insert_other}
use Rattle.dep_types.proofs.Later.{given_later}
use Rattle.dep_types.proofs.TickLemmas.{get-unexpired}
use Rattle.dep_types.proofs.TickSound.{keeps_sound}
use Rattle.dep_fields.specs.Fit.{AreFit}
use Rattle.dep_decisions.specs.Decisions.{decision, numbers_for}
use Rattle.dep_decisions.specs.Rules.{refusal}
use Rattle.dep_decisions.specs.Effects.{effect, effect_of, at, without, used, fresh, with_segment}
use Rattle.dep_decisions.specs.declared.operation.Operation.{Operation}
use Rattle.dep_decisions.specs.declared.decision.Decision.{Decision}
use Rattle.dep_decisions.specs.declared.decision.Decision.TheVariants.{Show, Create, Append, Replace, Complete, SetMetadata, SetFiles, SetFile, DropFile, DropObject, Open, Receive, DropUpload}
use Rattle.dep_decisions.specs.Fit.{IsFitDecision}
use Rattle.dep_decisions.proofs.FoundInMaps.{without-was, at-some, at-none}
use Rattle.dep_decisions.proofs.Accepted.{decision_fit, effect_sound}
use Rattle.dep_decisions.proofs.SoundEffects.{uploads_by}
use Rattle.dep_message.specs.Stream.{Item}
use Rattle.dep_exchange.specs.Machine.{step}
use Rattle.dep_exchange.specs.Records.{Record, World, Run}
use Rattle.dep_server.specs.Acknowledged.{RunsThrough}
use Rattle.dep_server.specs.Moves.{Move, state_by}
use Rattle.dep_server.proofs.RunKeeps.{through_run, from_run}
use Rattle.dep_server.proofs.SoundLemmas.{step_sound}
use Rattle.dep_server.proofs.StepsKeep.{by_step, by_moves}

-- each segment that is received keeps this of its upload
abbrev pub IsKept : (Upload → Type 0) → Type 0
IsKept P = (s : State) (k : ℕ) (content : List ℕ) (upload : Upload) → P upload → P (with_segment s k content upload)

-- ---- in one map

module _ (u : ℕ) (P : Upload → Type 0) where
  abbrev pub Holds : Numbered Upload → Type 0
  Holds m = (upload : Upload) × (map.get m u ≡ Some upload) × P upload

  abbrev pub HoldsStill : Numbered Upload → Type 0
  HoldsStill m = Holds m ⊎ (map.get m u ≡ None)

  -- what is found there is what was, or nothing
  same_or_none : (m n : Numbered Upload) (o : Option Upload) → map.get n u ≡ o → ((x : Upload) → o ≡ Some x → map.get m u ≡ Some x) → Holds m → HoldsStill n
  same_or_none m n None e was h = inr e
  same_or_none m n (Some x) e was h =
      let same : Some x ≡ Some h.0 = sym (was x refl) ∙ h.1 in
      inl (h.0, e ∙ same, h.2)

  left_or_gone : (m : Numbered Upload) (us : List ℕ) → Holds m → HoldsStill (without m us)
  left_or_gone m us h = same_or_none m (without m us) (map.get (without m us) u) refl (λ x e. without-was m us u x e) h

  -- another upload is put in
  pub beside : (m : Numbered Upload) (v : ℕ) (x : Upload) → u ≢ v → Holds m → Holds (map.insert m v x)
  beside m v x apart h = (h.0, get-insert_other m v x u apart ∙ h.1, h.2)

  -- a segment of another upload is received
  with_other : (s : State) (m : Numbered Upload) (v j : ℕ) (content : List ℕ) → u ≢ v → (o : Option Upload) → map.get m v ≡ o → Holds m → Holds (at m v (with_segment s j content))
  with_other s m v j content apart None e h = (h.0, ap (λ n. map.get n u) (at-none m v (with_segment s j content) e) ∙ h.1, h.2)
  with_other s m v j content apart (Some x) e h =
      (h.0, ap (λ n. map.get n u) (at-some m v (with_segment s j content) x e) ∙ (get-insert_other m v (with_segment s j content x) u apart ∙ h.1), h.2)

  -- a segment of some upload is received
  pub with_more : IsKept P → (s : State) (m : Numbered Upload) (v j : ℕ) (content : List ℕ) (b : Bool) → (u == v) ≡ b → Holds m → Holds (at m v (with_segment s j content))
  with_more kept s m v j content true e h =
      let same : u ≡ v = eqb-true u v e in
      let there : map.get m v ≡ Some h.0 = subst (λ n. map.get m n ≡ Some h.0) same h.1 in (
        with_segment s j content h.0,
        ap (λ n. map.get n u) (at-some m v (with_segment s j content) h.0 there)
            ∙ subst (λ n. map.get (map.insert m v (with_segment s j content h.0)) n ≡ Some (with_segment s j content h.0)) (sym same) (get-insert_same m v (with_segment s j content h.0)),
        kept s j content h.0 h.2,
      )
  with_more kept s m v j content false e h = with_other s m v j content (λ f. (let on : (u == v) ≡ true = eq-eqb u v f in cc)) (map.get m v) refl h

-- ---- in a state

module _ (u : ℕ) (P : Upload → Type 0) (kept : IsKept P) where
  record Stays (s : State) : Type 0 where
    pub sound : IsSound s
    pub given : IsGiven s.next.upload u
    pub still : HoldsStill u P s.uploads

  module _ (s : State) (content : List ℕ) (sound : IsSound s) (given : IsGiven s.next.upload u) where
    left : (d : Decision) → (effect_of s content d).uploads ≡ without s.uploads (used d) → Holds u P s.uploads → HoldsStill u P (effect_of s content d).uploads
    left d same h = subst (λ (m : Numbered Upload). HoldsStill u P m) (sym same) (left_or_gone u P s.uploads (used d) h)

    kept_by : (d : Decision) → Holds u P s.uploads → HoldsStill u P (effect_of s content d).uploads
    kept_by (Open o) h = inl (beside u P s.uploads s.next.upload (fresh s o) (λ e. let low = given.below in omega (arith, low, e)) h)
    kept_by (Receive v j) h = inl (with_more u P kept s s.uploads v j content (u == v) refl h)
    kept_by Show h = left Show refl h
    kept_by (Create d ingests) h = left (Create d ingests) refl h
    kept_by (Append n d ingests) h = left (Append n d ingests) refl h
    kept_by (Replace n d ingests) h = left (Replace n d ingests) refl h
    kept_by (Complete n) h = left (Complete n) refl h
    kept_by (SetMetadata n texts) h = left (SetMetadata n texts) refl h
    kept_by (SetFiles n new) h = left (SetFiles n new) refl h
    kept_by (SetFile n f new) h = left (SetFile n f new) refl h
    kept_by (DropFile n f) h = left (DropFile n f) refl h
    kept_by (DropObject n) h = left (DropObject n) refl h
    kept_by (DropUpload v) h = left (DropUpload v) refl h

    -- what is gone stays so, since no number is given twice
    still_by : (d : Decision) → IsFitDecision s content d → HoldsStill u P s.uploads → HoldsStill u P (effect_of s content d).uploads
    still_by d fit (inl h) = kept_by d h
    still_by d fit (inr gone) = inr ((uploads_by s content sound d fit).apart u given gone)

    given_by : (d : Decision) → IsGiven (effect_of s content d).next.upload u
    given_by d = given_later s.next.upload (s.next.upload + (numbers_for d).upload) u (omega arith) given

  ticked : (config : Config) (s : State) (moment : ℕ) (b : Bool) → expires config (clock_at s moment) s.uploads u ≡ b → HoldsStill u P s.uploads → HoldsStill u P (tick config s moment).uploads
  ticked config s moment true e h = inr (get-unexpired config (clock_at s moment) s.uploads u ∙ ap (λ (x : Bool). cond (not x) (map.get s.uploads u) None) e)
  ticked config s moment false e (inl h) =
      inl (h.0, get-unexpired config (clock_at s moment) s.uploads u ∙ (ap (λ (x : Bool). cond (not x) (map.get s.uploads u) None) e ∙ h.1), h.2)
  ticked config s moment false e (inr gone) =
      inr (get-unexpired config (clock_at s moment) s.uploads u ∙ (ap (λ (x : Bool). cond (not x) (map.get s.uploads u) None) e ∙ gone))

  stays_ticked : (config : Config) (s : State) (moment : ℕ) → Stays s → Stays (tick config s moment)
  stays_ticked config s moment h = record {
    sound = keeps_sound config s moment h.sound;
    given = h.given;
    still = ticked config s moment (expires config (clock_at s moment) s.uploads u) refl h.still;
  }

  -- what is accepted
  stays_then : (config : Config) (s : State) (op : Operation) → AreFit op.fields → refusal config s op ≡ None → Stays s → Stays (effect config s op)
  unfolding effect
  stays_then config s op fit accepted h = record {
    sound = effect_sound config s op fit accepted h.sound;
    given = given_by s op.content h.sound h.given (decision config op);
    still = still_by s op.content h.sound h.given (decision config op) (decision_fit config s op fit accepted) h.still;
  }

  stays_stepped : (config : Config) (s : State) (item : Item) (moment : ℕ) → Stays s → Stays (step config s item moment).state
  stays_stepped config = by_step config Stays (stays_ticked config) (stays_then config)

  stays_moved : (config : Config) (s : State) (moves : List Move) → Stays s → Stays (state_by config s moves)
  stays_moved config = by_moves config Stays (stays_ticked config) (stays_then config)

  at_first : (s : State) → IsSound s → Holds u P s.uploads → Stays s
  at_first s sound h = record { sound = sound; given = (sound.uploads u h.0 h.1).number_given; still = inl h }

  -- these moves were made, and more time has passed
  pub still_after : (config : Config) (s : State) (moves : List Move) (later : ℕ) → IsSound s → Holds u P s.uploads → HoldsStill u P (tick config (state_by config s moves) later).uploads
  still_after config s moves later sound h = (stays_ticked config (state_by config s moves) later (stays_moved config s moves (at_first s sound h))).still

  module _ {config : Config} {first : State} {records : List Record} {w : World} (r : Run config first records w) (through : State)
      (sound : IsSound first) (t : RunsThrough r through) where
    pub sound_through : IsSound through
    sound_through = through_run config IsSound (keeps_sound config) (step_sound config) r through t sound

    stays_on : Holds u P through.uploads → Stays w.state
    stays_on h = from_run config Stays (stays_ticked config) (stays_stepped config) r through t (at_first through sound_through h)

    -- from there to the end of the run
    pub still_there : Holds u P through.uploads → HoldsStill u P w.state.uploads
    still_there h = (stays_on h).still

    -- and once more time has passed
    pub still_later : (later : ℕ) → Holds u P through.uploads → HoldsStill u P (tick config w.state later).uploads
    still_later later h = (stays_ticked config w.state later (stays_on h)).still
