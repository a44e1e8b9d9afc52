-- What was found first is shown or taken.
use Rattle.std.proofs.Common.{◌≡◌, ◌⊎◌, inl, inr, ℕ, Bool, true, false, List, ◌++◌, Option, Some, refl, sym, ap, subst, ◌∙◌}
use Rattle.dep_message.specs.Giving.{GivesStep}
use Rattle.dep_message.specs.Heads.{closes}
use Rattle.dep_message.specs.Places.{Place, Open, Reading}
use Rattle.dep_message.specs.Showing.{IsNoRequest, ShowsNext}
use Rattle.dep_message.specs.Stream.{Fault, Continue, Request, FirstAt, Waits, after_item}
use Rattle.dep_message.specs.Working.{FindsFirst, IsItem, IsKnownProgress, IsReadTo, KeepsBytes, ShowsFound, bytes_with, kept_bytes}
use Rattle.dep_message.specs.declared.intake.Step.{Step}
use Rattle.dep_message.specs.declared.intake.Step.TheVariants as S
use Rattle.dep_message.specs.declared.message.Message.{Message}
use Rattle.dep_message.specs.declared.progress.FirstItem.{FirstItem}
use Rattle.dep_message.specs.declared.progress.Found.{Found}
use Rattle.dep_message.specs.declared.progress.Found.TheVariants as F
use Rattle.dep_message.specs.declared.progress.Progress.{Progress}
use Rattle.dep_message.specs.declared.progress.Progress.TheVariants.{Searched, Sized, Chunked, First}
use Rattle.dep_message.specs.declared.unparsed.Unparsed.{Unparsed}
use Rattle.dep_message.proofs.Bodies.{request_size}
use Rattle.dep_message.proofs.Keeping.{keeps_fresh}
use Rattle.dep_message.proofs.OneReading.{continue_request, fault_request, one_at, waits_none}

-- where no item was found, none is complete
pub waits_on : (limit : ℕ) (continued : Bool) (bytes : List ℕ) (progress : Progress) → IsReadTo limit continued bytes progress
    → ((first : FirstItem) → progress ≡ First first → ⊥) → Waits limit (Open continued bytes)
waits_on limit continued bytes (Searched n) read isnt = read
waits_on limit continued bytes (Sized request) read isnt = read
waits_on limit continued bytes (Chunked request) read isnt = read
waits_on limit continued bytes (First first) read isnt = absurd (isnt first refl)

pub none_waits : (limit : ℕ) (at : Place) → Waits limit at → IsNoRequest limit at
none_waits limit at waits m next f = waits_none limit at next (Request m) waits f

-- a request that was found stands first
found_first : (limit : ℕ) (continued : Bool) (used buffer : List ℕ) (m : Message) → IsItem limit continued used buffer (F.Message m)
    → FirstAt limit (Open continued (used ++ buffer)) (Request m) (after_item (Request m) used buffer)
found_first limit continued used buffer m is = record { text = used; behind = buffer; whole = refl; spelled = is; goes_on = refl }

-- what is shown of what was found
shows_found : {X : Type 0} (sees : X → X → Message → Type 0) (before after : X) (limit : ℕ) (continued : Bool) (used buffer : List ℕ) (item : Found)
    → IsItem limit continued used buffer item → (shown : Bool) → ShowsFound sees before after item shown
    → ShowsNext sees before after limit (Open continued (used ++ buffer)) shown
shows_found sees before after limit continued used buffer (F.Message m) is shown s =
    subst (ShowsNext sees before after limit (Open continued (used ++ buffer))) (sym s.0)
    (m, after_item (Request m) used buffer, found_first limit continued used buffer m is, s.1)
shows_found sees before after limit continued used buffer F.Continue is shown s =
    subst (ShowsNext sees before after limit (Open continued (used ++ buffer))) (sym s.0) (
      subst (λ (l : List ℕ). IsNoRequest limit (Open continued (l ++ buffer))) (sym is.0)
          (λ m next f. continue_request limit continued is.1.0 f.text is.1.1 f.behind m (sym is.1.2 ∙ f.whole) is.1.3 f.spelled),
      s.1,
    )
shows_found sees before after limit continued used buffer (F.Fault refusal head_only) is shown s =
    subst (ShowsNext sees before after limit (Open continued (used ++ buffer))) (sym s.0) (
      λ m next f.
          fault_request limit continued is.0 f.text is.1 f.behind m (sym is.2 ∙ f.whole) is.3 f.spelled,
      s.1,
    )

-- what is shown of the bytes that are kept
pub shows_kept : {X : Type 0} (sees : X → X → Message → Type 0) (before after : X) (limit : ℕ) (continued : Bool) (bytes : List ℕ) (unparsed : Unparsed)
    → KeepsBytes limit continued bytes unparsed → (first : FirstItem) → unparsed.progress ≡ First first → (shown : Bool) → ShowsFound sees before after first.item shown
    → ShowsNext sees before after limit (Open continued bytes) shown
shows_kept sees before after limit continued bytes unparsed keeps first is shown s =
    let known = subst (λ (p : Progress). IsKnownProgress unparsed.limit unparsed.continued unparsed.buffer p) is keeps.known in
    let same : first.used.items ++ unparsed.buffer ≡ bytes = sym (ap (λ (p : Progress). bytes_with p unparsed.buffer) is) ∙ keeps.bytes_are in
    subst (λ (r : Reading). ShowsNext sees before after r.limit r.place shown)
    (λ i. record { limit = keeps.limit_is i; place = Open (keeps.continued_is i) (same i); is_dead = false })
    (shows_found sees before after unparsed.limit unparsed.continued first.used.items unparsed.buffer first.item known shown s)

-- what was found is taken
pub takes_found : (unparsed : Unparsed) (used : List ℕ) (item : Found) → IsItem unparsed.limit unparsed.continued used unparsed.buffer item
    → (progress : Progress) → progress ≡ Searched 0 → (reported : Bool)
    → ((item ≡ F.Continue) × (reported ≡ true)) ⊎ ((item ≡ F.Continue → ⊥) × (reported ≡ false))
    → FindsFirst unparsed.limit unparsed.continued (used ++ unparsed.buffer) (record unparsed { progress = progress; continued = reported }) (Some item)
takes_found unparsed used (F.Message m) is progress fresh reported (inl t) = absurd (cc (t.0))
takes_found unparsed used (F.Message m) is progress fresh reported (inr t) = (
  used,
  unparsed.buffer,
  refl,
  is,
  request_size unparsed.limit unparsed.continued used m is,
  keeps_fresh unparsed.limit false unparsed.buffer (record unparsed { progress = progress; continued = reported }) fresh refl t.1 refl,
)
takes_found unparsed used F.Continue is progress fresh reported (inl t) =
    subst (λ (l : List ℕ). FindsFirst unparsed.limit unparsed.continued (l ++ unparsed.buffer) (record unparsed { progress = progress; continued = reported }) (Some F.Continue)) (sym is.0)
    (is.1, keeps_fresh unparsed.limit true unparsed.buffer (record unparsed { progress = progress; continued = reported }) fresh refl t.1 refl)
takes_found unparsed used F.Continue is progress fresh reported (inr t) = absurd (t.0 refl)
takes_found unparsed used (F.Fault refusal head_only) is progress fresh reported t =
    (is, refl, (keeps_fresh unparsed.limit reported unparsed.buffer (record unparsed { progress = progress; continued = reported }) fresh refl refl refl).known)

-- by the bytes that are kept
pub found_in : (limit : ℕ) (continued : Bool) (bytes : List ℕ) (unparsed new : Unparsed) (found : Option Found) → KeepsBytes limit continued bytes unparsed
    → FindsFirst unparsed.limit unparsed.continued (kept_bytes unparsed) new found → FindsFirst limit continued bytes new found
found_in limit continued bytes unparsed new found keeps f =
    subst (λ (l : ℕ). FindsFirst l continued bytes new found) keeps.limit_is
    (subst (λ (b : Bool). FindsFirst unparsed.limit b bytes new found) keeps.continued_is
    (subst (λ (l : List ℕ). FindsFirst unparsed.limit unparsed.continued l new found) keeps.bytes_are f))

-- behind a preview the next step is the request that was shown
pub shown_next : (old new : Reading) (m : Message) (next : Place) (step : Step) → FirstAt old.limit old.place (Request m) next → GivesStep old new step
    → (step ≡ S.Message m (closes m.head)) × (new.place ≡ next)
shown_next old new m next S.Continue100 f g = let o = one_at old.limit old.place (Request m) Continue next new.place f g.first in absurd (cc (o.0))
shown_next old new m next (S.Message k is_last) f g =
    let o = one_at old.limit old.place (Request m) (Request k) next new.place f g.0.first in
    let same : m ≡ k = same_request m k o.0 in
    let last : is_last ≡ closes m.head = g.1 ∙ ap (λ (x : Message). closes x.head) (sym same) in
    ((λ i. S.Message (sym same i) (last i)), sym o.1)
  where
    same_request : (a b : Message) → Request a ≡ Request b → a ≡ b
    same_request a b e = cc e
shown_next old new m next (S.Refused refusal head_only) f g = let o = one_at old.limit old.place (Request m) (Fault refusal head_only) next new.place f g.first in absurd (cc (o.0))
shown_next old new m next S.NeedMore f g = absurd (waits_none old.limit old.place next (Request m) g.1 f)
shown_next old new m next S.Dead f g = absurd (subst (λ (p : Place). FirstAt old.limit p (Request m) next) g.1 f)
