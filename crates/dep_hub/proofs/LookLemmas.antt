-- What a look at the next request of a connection shows.
use Rattle.std.proofs.Common.{◌≡◌, ◌⊎◌, inl, inr, ℕ, ◌<◌, Bool, true, false, List, Option, length, get_or, set, None, Some, MatchOption, Result, Ok, Err, IfOk, IsTrue, MatchResult, if◌then◌else◌, refl, sym, ap, subst, ◌∙◌}
use Rattle.std.specs.Prelude.{IsSome}
use Rattle.std.specs.declared.alloc.AllocError.{AllocError}
use Rattle.std.proofs.KnownBytes.{Keeps-refl}
use Rattle.std.proofs.lemmas.Bool.{eq-eqb}
use Rattle.dep_types.specs.Conditions.{Condition, HasCleanDisk}
use Rattle.dep_head.specs.Head.{HeadParts}
use Rattle.dep_message.specs.Giving.{HasFirstHead}
use Rattle.dep_message.specs.Places.{Place, Reading}
use Rattle.std.specs.Result.{result_and, result_unwrap_or}
use Rattle.dep_message.specs.Showing.{IsNoNext, IsNoRequest, ShowsNext}
use Rattle.dep_message.specs.Stream.{Item, Request, Fault, Continue, FirstAt}
use Rattle.dep_message.specs.declared.message.Message.{Message}
use Rattle.dep_message.proofs.OneReading.{one_at as one_item}
use Rattle.dep_hub.specs.Claims.{claim_of, has_to_wait, is_any_pending, waits_on}
use Rattle.dep_exchange.specs.declared.next.Next.{Next}
use Rattle.dep_hub.specs.Looks.{SeesHead, ShowsItem, is_new, is_to_prepare}
use Rattle.dep_hub.specs.Preparing.{IsLookedAt, is_prepared_first, is_preparing}
use Rattle.dep_hub.specs.RepresentsOwing.{IsAnswerable, MayBeLookedAt, KeepsBack, KeptBack, NextIsAnswerable, RepliesOver, begins_to_prepare, begins_to_wait, behind_at, is_unsent, lacks_memory, waits_still}
use Rattle.dep_hub.specs.Numbers.{place_of_number}
use Rattle.dep_hub.specs.Representing.{GoesOnAs, IsClean, IsHonest, intake_of}
use Rattle.dep_hub.specs.declared.claim.Claim.{Claim}
use Rattle.dep_hub.specs.declared.connections.Connection.{Connection}
use Rattle.dep_hub.specs.declared.hub.Hub.{Hub}
use Rattle.dep_hub.specs.declared.keeping.Look.{Look}
use Rattle.dep_hub.specs.declared.keeping.Look.TheVariants.{Kept, Claims, Free}
use Rattle.dep_hub.specs.declared.rest.Behind.{Behind}
use Rattle.dep_hub.specs.declared.rest.Behind.TheVariants.{Nothing, Content, Broken, Waits, Prepares, Prepared}
use Rattle.dep_hub.proofs.BehindLemmas.{behind_some, behinds_are, intakes_stay, others_are, set_here, some_reading}
use Rattle.dep_hub.proofs.ConnectionLemmas.{index_some}
use Rattle.dep_hub.proofs.PendingLemmas.{idle_waits, true_false}
use Rattle.dep_hub.proofs.PreparingLemmas.{request_head}
use Rattle.dep_hub.proofs.TurnLemmas.{one_at}

-- it wasn't looked at before, and is one that is prepared first
to_prepare : (was : Behind) (head : HeadParts) → is_to_prepare was head ≡ true → (was ≡ Nothing) × (is_prepared_first head ≡ true)
to_prepare Nothing head e = (refl, e)
to_prepare (Content r) head e = cc e
to_prepare Broken head e = cc e
to_prepare (Waits claim) head e = cc e
to_prepare (Prepares left) head e = cc e
to_prepare Prepared head e = cc e

-- or it was, or is none
none_first : (was : Behind) (head : HeadParts) → is_to_prepare was head ≡ false → was ≡ Nothing → is_prepared_first head ≡ false
none_first was head e nothing = sym (ap (λ (b : Behind). is_to_prepare b head) nothing) ∙ e

-- it holds of an item
abbrev holds_of : (HeadParts → Bool) → Item → Bool
holds_of holds (Request m) = holds m.head
holds_of holds (Fault refusal head_only) = false
holds_of holds Continue = false

-- what doesn't hold of a request that stands first holds of none
none_holds : (holds : HeadParts → Bool) (reading : Reading) (m : Message) (next : Place) → FirstAt reading.limit reading.place (Request m) next → holds m.head ≡ false
    → IsNoNext holds reading.limit reading.place
none_holds holds reading m next first isnt other after f =
    ap (holds_of holds) (sym (one_item reading.limit reading.place (Request m) (Request other) next after first f).0) ∙ isnt

module _ (reading : Reading) (was : Behind) (is_busy : Bool) (ready : MayBeLookedAt was) where
  -- no request stands first
  none_seen : IsNoRequest reading.limit reading.place → (cs : List Connection) → ShowsItem cs reading was Free
  none_seen absent cs = (ready, (λ m next f. absurd (absent m next f)), λ nothing m next f. absurd (absent m next f))

  looked_at : (m : Message) (next : Place) → FirstAt reading.limit reading.place (Request m) next → is_to_prepare was m.head ≡ false → IsLookedAt reading was
  looked_at m next first e nothing = none_holds is_prepared_first reading m next first (none_first was m.head e nothing)

  shows_head : (m : Message) (next : Place) → FirstAt reading.limit reading.place (Request m) next → (look : Look) → SeesHead was is_busy m.head look
      → (cs : List Connection) → is_busy ≡ is_any_pending cs → ShowsItem cs reading was look
  shows_head m next first (Kept now) s cs busy = let named = to_prepare was m.head s.0 in begins_to_prepare named.0 (m, next, first, named.1) s.1
  shows_head m next first (Claims claim) s cs busy = (ready, looked_at m next first s.0, (m, next, first, s.1, none_first was m.head s.0))
  shows_head m next first Free s cs busy =
      (ready, (λ other after f. idle_waits cs (claim_of other.head) (sym busy ∙ s.1)), looked_at m next first s.0)

  -- memory ran out
  shows_lack : (was ≡ Nothing) ⊎ (is_busy ≡ true) → HasFirstHead reading.place → (cs : List Connection) → is_busy ≡ is_any_pending cs → ShowsItem cs reading was (Kept Prepared)
  shows_lack (inl nothing) has cs busy = lacks_memory ready (inl nothing) has refl
  shows_lack (inr is) has cs busy = lacks_memory ready (inr (sym busy ∙ is)) has refl

  -- what was seen of the request that stands first
  shows_as : (was ≡ Nothing) ⊎ (is_busy ≡ true) → (m : Message) (next : Place) → FirstAt reading.limit reading.place (Request m) next → (seen : Result Look AllocError)
      → IfOk seen (SeesHead was is_busy m.head) → (cs : List Connection) → is_busy ≡ is_any_pending cs → ShowsItem cs reading was (result_unwrap_or seen (Kept Prepared))
  shows_as asked m next first (Ok look) s = shows_head m next first look s
  shows_as asked m next first (Err fault) s = shows_lack asked (request_head reading.limit reading.place next m first)

  -- or where none was shown
  pub shows_next : {X : Type 0} (sees : X → X → Message → Type 0) (before after : X) (look : X → Result Look AllocError) → look before ≡ Ok Free
      → ((m : Message) → sees before after m → IfOk (look after) (SeesHead was is_busy m.head)) → (was ≡ Nothing) ⊎ (is_busy ≡ true) → (shown : Result Bool AllocError)
      → MatchResult shown (ShowsNext sees before after reading.limit reading.place) (λ _. HasFirstHead reading.place × (after ≡ before))
      → (cs : List Connection) → is_busy ≡ is_any_pending cs → ShowsItem cs reading was (result_unwrap_or (result_and shown (look after)) (Kept Prepared))
  shows_next sees before after look began seen asked (Ok true) (m, next, first, s) cs busy = shows_as asked m next first (look after) (seen m s) cs busy
  shows_next sees before after look began seen asked (Ok false) (absent, same) cs busy =
      subst (λ (r : Result Look AllocError). ShowsItem cs reading was (result_unwrap_or r (Kept Prepared))) (sym (ap look same ∙ began)) (none_seen absent cs)
  shows_next sees before after look began seen asked (Err fault) (has, same) cs busy = shows_lack asked has cs busy

-- it was looked at before
pub was_looked_at : (b : Behind) → ((claim : Claim) × (b ≡ Waits claim)) ⊎ (b ≡ Prepared) → MayBeLookedAt b × (is_new b ≡ false)
was_looked_at b (inl (claim, e)) = ((ap is_unsent e, ap is_preparing e), ap is_new e)
was_looked_at b (inr e) = ((ap is_unsent e, ap is_preparing e), ap is_new e)

-- nothing is asked of it
pub shows_free : (cs : List Connection) (reading : Reading) (was : Behind) → MayBeLookedAt was → is_new was ≡ false → is_any_pending cs ≡ false → ShowsItem cs reading was Free
shows_free cs reading was ready seen idle = (ready, (λ m next f. idle_waits cs (claim_of m.head) idle), λ nothing. absurd (true_false (sym (ap is_new nothing) ∙ seen)))

-- it has to wait by its claim, or it may be answered
pub waits_now : (cs : List Connection) (reading : Reading) (was : Behind) (claim : Claim) → ShowsItem cs reading was (Claims claim) → has_to_wait cs claim ≡ true
    → KeptBack cs reading was (Waits claim)
waits_now cs reading was claim (ready, looked, has) waits = begins_to_wait claim ready has refl waits

pub claims_free : (cs : List Connection) (reading : Reading) (was : Behind) (claim : Claim) → ShowsItem cs reading was (Claims claim) → has_to_wait cs claim ≡ false
    → IsAnswerable cs reading was
claims_free cs reading was claim (ready, looked, (m, next, first, is, named)) free =
    (ready, none_holds (λ (head : HeadParts). has_to_wait cs (claim_of head)) reading m next first (ap (has_to_wait cs) (sym is) ∙ free), looked)

-- what holds of a connection where it stands holds by its number
pub by_number : (n i : ℕ) (cs : List Connection) (c : Connection) → place_of_number n cs ≡ Some i → c ≡ get_or cs i c → (P : Reading → Behind → Type 0)
    → P c.intake c.behind → (reading : Reading) → intake_of cs n ≡ Some reading → P reading (behind_at cs n)
by_number n i cs c index item P h reading there =
    subst (λ (r : Reading). P r (behind_at cs n)) (some_reading c.intake reading (sym (index_some n i cs c index item).1 ∙ there))
    (subst (λ (b : Behind). P c.intake b) (sym (behind_some n i cs c index item)) h)

-- it may be answered
pub free_number : (n i : ℕ) (cs : List Connection) (c : Connection) → place_of_number n cs ≡ Some i → c ≡ get_or cs i c → (kept : Option Behind) → kept ≡ None
    → MatchOption kept (IsAnswerable cs c.intake c.behind) (KeptBack cs c.intake c.behind) → NextIsAnswerable cs n
free_number n i cs c index item kept is found = by_number n i cs c index item (λ (r : Reading) (b : Behind). IsAnswerable cs r b)
    (subst (λ (o : Option Behind). MatchOption o (IsAnswerable cs c.intake c.behind) (KeptBack cs c.intake c.behind)) is found)

-- or it is kept back, and this stands behind its last reply
pub keeps_number : {A : Type 0} (condition : A → Condition) (old new : Hub A) (n i : ℕ) (c : Connection) (b : Behind) → place_of_number n old.connections.items ≡ Some i
    → c ≡ get_or old.connections.items i c → new.store ≡ old.store → new.config ≡ old.config → new.next ≡ old.next
    → new.connections.items ≡ set old.connections.items i (record { number = c.number; intake = c.intake; behind = b })
    → KeptBack old.connections.items c.intake c.behind b → (taken : Option (List ℕ)) (failures : ℕ) → KeepsBack condition taken taken failures failures old new n
keeps_number condition old new n i c b index item store config next changed kept taken failures =
    let items = old.connections.items in
    let behinds = behinds_are n i items c b index item c.intake new.connections.items changed in
    let here : behind_at new.connections.items n ≡ b = behinds n ∙ ap (λ (t : Bool). if t then b else behind_at items n) (eq-eqb n n refl) in
    record {
      same_store = store;
      same_config = config;
      same_next = next;
      sends_nothing = Keeps-refl taken;
      same_failures = refl;
      intakes = intakes_stay n i items c b index item new.connections.items changed;
      others = others_are n items new.connections.items b behinds;
      reading = c.intake;
      there = (index_some n i items c index item).1;
      why = subst (λ (x : Behind). KeptBack items c.intake x (behind_at new.connections.items n)) (sym (behind_some n i items c index item))
          (subst (λ (x : Behind). KeptBack items c.intake c.behind x) (sym here) kept);
    }

-- the look changed nothing
pub same_set : (i : ℕ) (cs : List Connection) (c d : Connection) → d ≡ c → c ≡ get_or cs i c → set cs i d ≡ cs
same_set i cs c d e item = ap (λ (x : Connection). set cs i x) e ∙ set_here i cs c item

pub found_by : (cs items : List Connection) (c : Connection) (look : Look) (kept : Option Behind) → cs ≡ items
    → ((reading : Reading) (was : Behind) → ShowsItem cs reading was look → MatchOption kept (IsAnswerable cs reading was) (KeptBack cs reading was))
    → ShowsItem items c.intake c.behind look → MatchOption kept (IsAnswerable items c.intake c.behind) (KeptBack items c.intake c.behind)
found_by cs items c look kept same by =
    subst (λ (l : List Connection). ShowsItem l c.intake c.behind look → MatchOption kept (IsAnswerable l c.intake c.behind) (KeptBack l c.intake c.behind)) same (by c.intake c.behind)

-- by what it shows
pub keeps_seen : {A : Type 0} (condition : A → Condition) (old new : Hub A) (n i : ℕ) (c again : Connection) (looked : List Connection) (kept : Option Behind) (b : Behind)
    → place_of_number n old.connections.items ≡ Some i → i < length old.connections.items → c ≡ get_or old.connections.items i c → looked ≡ old.connections.items
    → again ≡ get_or looked i again → new.store ≡ old.store → new.config ≡ old.config → new.next ≡ old.next
    → new.connections.items ≡ set looked i (record { number = again.number; intake = again.intake; behind = b }) → kept ≡ Some b
    → MatchOption kept (IsAnswerable old.connections.items c.intake c.behind) (KeptBack old.connections.items c.intake c.behind)
    → (taken : Option (List ℕ)) (failures : ℕ) → KeepsBack condition taken taken failures failures old new n
keeps_seen condition old new n i c again looked kept b index within item same item_again store config next changed is found =
    let items = old.connections.items in
    let one : again ≡ c = one_at items i again c within (subst (λ (cs : List Connection). again ≡ get_or cs i again) same item_again) item in
    keeps_number condition old new n i c b index item store config next
    (changed ∙ (λ j. set (same j) i (record { number = (one j).number; intake = (one j).intake; behind = b })))
    (subst (λ (o : Option Behind). MatchOption o (IsAnswerable items c.intake c.behind) (KeptBack items c.intake c.behind)) is found)

-- it is there still
pub kept_there : {A : Type 0} (condition : A → Condition) (old new : Hub A) (n : ℕ) (taken : Option (List ℕ)) (failures : ℕ)
    → KeepsBack condition taken taken failures failures old new n → IsSome (intake_of new.connections.items n)
kept_there condition old new n taken failures k = subst (λ (o : Option Reading). IsSome o) (sym (k.intakes n ∙ k.there)) refl

pub kept_goes : {A : Type 0} (condition : A → Condition) (old new : Hub A) (n : ℕ) (taken : Option (List ℕ)) (failures : ℕ)
    → KeepsBack condition taken taken failures failures old new n → GoesOnAs condition old new
kept_goes {A} condition old new n taken failures k = record {
  config = k.same_config;
  next = k.same_next;
  clean = subst (λ (x : A). IsTrue (condition x).is_open → IsClean condition old) (sym k.same_store) (λ h. h);
  honest = subst (λ (x : A). HasCleanDisk (condition x) → IsHonest condition old) (sym k.same_store) (λ h. h);
}

-- it waits still
pub still_waits : (cs : List Connection) (reading : Reading) (was : Behind) → waits_on cs was ≡ true → KeptBack cs reading was was
still_waits cs reading (Waits claim) e = waits_still claim refl refl e
still_waits cs reading Nothing e = cc e
still_waits cs reading (Content r) e = cc e
still_waits cs reading Broken e = cc e
still_waits cs reading (Prepares left) e = cc e
still_waits cs reading Prepared e = cc e

-- the same hub
pub goes_same : {A : Type 0} (condition : A → Condition) (old mid new : Hub A) → mid ≡ old → GoesOnAs condition mid new → GoesOnAs condition old new
goes_same {A} condition old mid new same goes = subst (λ (h : Hub A). GoesOnAs condition h new) same goes

pub turn_same : {A : Type 0} (old mid new : Hub A) → mid ≡ old → new.last_turn ≡ mid.last_turn → new.last_turn ≡ old.last_turn
turn_same {A} old mid new same turn = turn ∙ ap (λ (h : Hub A). h.last_turn) same

pub replies_same : {A : Type 0} (condition : A → Condition) (old mid new : Hub A) (n moment : ℕ) (next : Next) (taken takes : Option (List ℕ)) (failures failures_after : ℕ) → mid ≡ old
    → RepliesOver condition taken takes failures failures_after mid new n moment next → RepliesOver condition taken takes failures failures_after old new n moment next
replies_same {A} condition old mid new n moment next taken takes failures failures_after same r =
    subst (λ (h : Hub A). RepliesOver condition taken takes failures failures_after h new n moment next) same r
