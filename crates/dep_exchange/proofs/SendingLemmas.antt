-- What is ready is sent, with a stored content behind it.
use Rattle.std.proofs.Common.{◌≡◌, ◌≢◌, ◌⊎◌, inl, inr, ℕ, List, [], ◌∷◌, ◌++◌, IsTrue, IsSome, refl, sym, ap, subst, ◌∙◌, append_assoc, Option, Some, None, Err}
use Rattle.std.proofs.lemmas.List.{append-nil}
use Rattle.std.specs.Option.{option_map_or}
use Rattle.std.specs.Io.KnownBytes.{Appends}
use Rattle.dep_types.specs.State.{State, File, file_at}
use Rattle.dep_types.specs.Writing.{IsProperPrefix, HasRisen}
use Rattle.dep_types.specs.declared.stream_fault.StreamFault.{StreamFault}
use Rattle.dep_types.specs.declared.stream_fault.StreamFault.TheVariants.{Writer, Store, Memory, NoSuchFile}
use Rattle.dep_types.specs.Streams.{HasContent, IsPartOfContent, IsStreamed}
use Rattle.dep_answers.specs.Steps.{Stepped, sent_by}
use Rattle.dep_answers.specs.Performing.{stored_in}
use Rattle.dep_answers.specs.declared.performed.StoredFile.{StoredFile}
use Rattle.dep_answers.specs.declared.performed.Performed.{Performed}
use Rattle.dep_types.specs.Conditions.{Condition, Represents, HasCleanDisk, Leaves}
use Rattle.dep_exchange.specs.Performing.{Performs}
use Rattle.dep_exchange.specs.Sending.{SendsReply, Outside, Passes, SendsReady}
use Rattle.dep_exchange.specs.declared.rest.Rest.{Rest}
use Rattle.dep_exchange.specs.declared.sending.Answered.{Answered}
use Rattle.dep_exchange.specs.declared.sending.Answered.TheVariants.{Sent, GaveUp, CutShort}
use Rattle.dep_exchange.proofs.Leaving.{Settles, stays_as}
use Rattle.std.proofs.KnownBytes.{Appends-nil, Appends-trans}

-- ---- what was sent, in parts

pub passes_none : (at : Outside) → Passes at at []
passes_none at = record { appends = Appends-nil at.taken; honest = λ h. h; clean = λ h. h }

pub passes_both : {a b c : Outside} {xs ys : List ℕ} → Passes a b xs → Passes b c ys → Passes a c (xs ++ ys)
passes_both {a} {b} {c} {xs} {ys} p q = record {
  appends = Appends-trans a.taken b.taken c.taken xs ys p.appends q.appends;
  honest = λ h. p.honest (q.honest h);
  clean = λ h. p.clean (q.clean h);
}

-- over a store that stays
pub passes_at : (held holds : Option (List ℕ)) (before after : ℕ) (store : Condition) (sent : List ℕ) → Appends held holds sent
    → Passes (record { taken = held; failures = before; store = store }) (record { taken = holds; failures = after; store = store }) sent
passes_at held holds before after store sent a = record { appends = a; honest = λ h. h; clean = λ h. h }

-- ---- parts of what is sent

prefix_behind : (front part whole : List ℕ) → IsProperPrefix part whole → IsProperPrefix (front ++ part) (front ++ whole)
prefix_behind front part whole p = record { rest = p.rest; joined = ap (λ l. front ++ l) p.joined ∙ sym (append_assoc front part p.rest); short = p.short }

not_joined : (a b : List ℕ) → a ≢ [] → a ++ b ≢ []
not_joined [] b h e = h refl
not_joined (x ∷ a) b h e = cc

prefix_before : (part whole more : List ℕ) → IsProperPrefix part whole → IsProperPrefix part (whole ++ more)
prefix_before part whole more p = record { rest = p.rest ++ more; joined = ap (λ l. l ++ more) p.joined ∙ append_assoc part p.rest more; short = not_joined p.rest more p.short }

nothing_of : (whole : List ℕ) → whole ≢ [] → IsProperPrefix [] whole
nothing_of whole some = record { rest = whole; joined = refl; short = some }

-- ---- the content of a file, by its number

-- a number is given to one file
same_content : (c : Condition) (s : State) → Represents c s → (n m f : ℕ) (x y : File) → file_at s n f ≡ Some x → file_at s m f ≡ Some y → x.content ≡ y.content
same_content c s represents n m f x y h k =
    let one : n ≡ m = (c.sound_if_kept s represents).one_place n m f x y h k in
    let both : Some x ≡ Some y = sym h ∙ (ap (λ (i : ℕ). file_at s i f) one ∙ k) in
    ap (λ (o : Option File). option_map_or (λ (file : File). file.content) o []) both

there : (o : Option File) (stored : List ℕ) → option_map_or (λ (file : File). file.content) o [] ≡ stored → stored ≢ []
    → (file : File) × (o ≡ Some file) × (file.content ≡ stored)
there None stored e some = absurd (some (sym e))
there (Some file) stored e some = (file, refl, e)

module _ (d : Condition) (s : State) (represents : Represents d s) (id : StoredFile) (stored : List ℕ) (is : stored_in s (Some id) ≡ stored) (some : stored ≢ []) where
  whole_content : (bytes : List ℕ) → HasContent s id.file bytes → bytes ≡ stored
  whole_content bytes h =
      let t = there (file_at s id.object id.file) stored is some in
      sym h.is ∙ (same_content d s represents h.object id.object id.file h.file t.0 h.held t.1 ∙ t.2)

  part_of : (sent : List ℕ) → IsPartOfContent s id.file sent → IsProperPrefix sent stored
  part_of sent h = subst (λ (l : List ℕ). IsProperPrefix sent l) (whole_content h.whole h.has) h.front

  nothing_or_part : (sent : List ℕ) → (sent ≡ []) ⊎ IsPartOfContent s id.file sent → IsProperPrefix sent stored
  nothing_or_part sent (inl e) = subst (λ (l : List ℕ). IsProperPrefix l stored) (sym e) (nothing_of stored some)
  nothing_or_part sent (inr h) = part_of sent h

  part_sent : (sent : List ℕ) (fault : StreamFault) → IsStreamed {X = Option Rest} s id.file sent (Err fault) → IsProperPrefix sent stored
  part_sent sent Writer h = part_of sent h
  part_sent sent Store h = nothing_or_part sent h
  part_sent sent Memory h = nothing_or_part sent h
  part_sent sent NoSuchFile h =
      let t = there (file_at s id.object id.file) stored is some in
      let none : Some t.0 ≡ None = sym t.1 ∙ h.1 id.object in cc

-- ---- what is ready

module _ (old mid new : Outside) (p : Performed) (id : StoredFile) (is : p.stored ≡ Some id) (bytes : List ℕ) (ready : bytes ≡ p.front.items)
    (first : SendsReply old.taken mid.taken bytes Sent) (kept : mid.failures ≡ old.failures) (same : mid.store ≡ old.store)
    (honest : HasCleanDisk new.store → HasCleanDisk old.store) (clean : IsTrue new.store.is_open → IsTrue old.store.is_open) where
  at_step : (stepped : Stepped) → Performs stepped old.store p → first.0 ≡ stepped.front
  at_step stepped perf = first.2 ∙ (ready ∙ perf.ready.front)

  stored_is : (stepped : Stepped) → Performs stepped old.store p → stored_in stepped.state (Some id) ≡ stepped.stored
  stored_is stepped perf = ap (stored_in stepped.state) (sym is) ∙ perf.ready.stored

  some_stored : (stepped : Stepped) → Performs stepped old.store p → stepped.stored ≢ []
  some_stored stepped perf = perf.ready.not_empty (subst IsSome (sym is) refl)

  passes : (sent : List ℕ) → Appends mid.taken new.taken sent → Passes old new (first.0 ++ sent)
  passes sent a = record { appends = Appends-trans old.taken mid.taken new.taken first.0 sent first.1 a; honest = honest; clean = clean }

  pub ready_all : (x : (sent : List ℕ) × Appends mid.taken new.taken sent
      × (HasCleanDisk new.store → (s : State) → Represents old.store s → HasContent s id.file sent))
      → (HasCleanDisk new.store → (s : State) → Represents old.store s → Represents new.store s) → new.failures ≡ mid.failures
      → SendsReady old new p Sent
  ready_all x ok then = record {
    sent = first.0 ++ x.0;
    passes = passes x.0 x.1;
    sends = λ disk stepped perf. record {
      represents = ok disk stepped.state perf.state;
      whole = ap (λ l. l ++ x.0) (at_step stepped perf)
          ∙ ap (λ l. stepped.front ++ l) (whole_content old.store stepped.state perf.state id stepped.stored (stored_is stepped perf) (some_stored stepped perf) x.0 (x.2 disk stepped.state perf.state));
      failures = then ∙ kept;
    };
  }

  pub ready_cut : (fault : StreamFault) (x : (sent : List ℕ) × Appends mid.taken new.taken sent
      × (HasCleanDisk new.store → (s : State) → Represents old.store s → IsStreamed {X = Option Rest} s id.file sent (Err fault)))
      → (IsTrue new.store.is_open → (s : State) → Represents old.store s → Represents new.store s)
      → (HasCleanDisk new.store → (s : State) → Represents old.store s → Leaves new.store (λ left. left ≡ s))
      → SendsReady old new p CutShort
  ready_cut fault x err stop = record {
    sent = first.0 ++ x.0;
    passes = passes x.0 x.1;
    sends = λ disk stepped perf.
        let e = at_step stepped perf in
        let part : IsProperPrefix x.0 stepped.stored =
        part_sent old.store stepped.state perf.state id stepped.stored (stored_is stepped perf) (some_stored stepped perf) x.0 fault (x.2 disk stepped.state perf.state) in
        record {
          part = subst (λ (l : List ℕ). IsProperPrefix (l ++ x.0) (sent_by stepped)) (sym e) (prefix_behind stepped.front x.0 stepped.stored part);
          represents = λ is_open. err is_open stepped.state perf.state;
          stop = stop disk stepped.state perf.state;
          cause = inr (x.0, part, ap (λ l. l ++ x.0) e);
        };
  }

-- nothing is stored behind the front
nothing_behind : (s : State) (o : Option StoredFile) (stored : List ℕ) → o ≡ None → stored_in s o ≡ stored → stored ≡ []
nothing_behind s o stored e is = sym is ∙ ap (stored_in s) e

-- the front was sent, and is all
pub ready_front : (held holds : Option (List ℕ)) (before after : ℕ) (store : Condition) (p : Performed) (bytes : List ℕ) → bytes ≡ p.front.items → p.stored ≡ None
    → SendsReply held holds bytes Sent → after ≡ before
    → SendsReady (record { taken = held; failures = before; store = store }) (record { taken = holds; failures = after; store = store }) p Sent
ready_front held holds before after store p bytes ready none first kept = record {
  sent = first.0;
  passes = passes_at held holds before after store first.0 first.1;
  sends = λ disk stepped perf. record {
    represents = perf.state;
    whole = first.2 ∙ (ready ∙ (perf.ready.front ∙ (sym (append-nil stepped.front) ∙ ap (λ l. stepped.front ++ l) (sym (nothing_behind stepped.state p.stored stepped.stored none perf.ready.stored)))));
    failures = kept;
  };
}

-- the front was cut
pub front_cut : (held holds : Option (List ℕ)) (before after : ℕ) (store : Condition) (p : Performed) (bytes : List ℕ) (answer : Answered) → bytes ≡ p.front.items
    → Settles store → answer ≢ Sent → SendsReply held holds bytes answer → (answer ≡ CutShort → HasRisen before after)
    → SendsReady (record { taken = held; failures = before; store = store }) (record { taken = holds; failures = after; store = store }) p answer
front_cut held holds before after store p bytes Sent ready settles never first cause = absurd (never refl)
front_cut held holds before after store p bytes GaveUp ready settles never first cause = absurd first.2
front_cut held holds before after store p bytes CutShort ready settles never first cause = record {
  sent = first.0;
  passes = passes_at held holds before after store first.0 first.1;
  sends = λ disk stepped perf. record {
    part = prefix_before first.0 stepped.front stepped.stored (subst (λ (l : List ℕ). IsProperPrefix first.0 l) (ready ∙ perf.ready.front) first.2);
    represents = λ _. perf.state;
    stop = stays_as store stepped.state settles perf.state;
    cause = inl (cause refl);
  };
}

-- no reply is both sent and cut
pub sent_uncut : {P : Type 0} → Sent ≡ CutShort → P
sent_uncut is = absurd (cc)

pub given_uncut : {P : Type 0} → GaveUp ≡ CutShort → P
given_uncut is = absurd (cc)

pub cut_unsent : {P : Type 0} → CutShort ≡ Sent → P
cut_unsent is = absurd (cc)
