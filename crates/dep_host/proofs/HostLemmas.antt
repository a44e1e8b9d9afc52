-- How a host goes on.
use Rattle.std.proofs.Common.{◌≡◌, ◌⊎◌, ◌<◌, ◌≤◌, ◌+◌, ◌==◌, ◌||◌, if◌then◌else◌, cond, ℕ, zero, suc, Bool, true, false, List, [], ◌∷◌, ◌++◌, Option, None, Some, refl, sym, ap, subst, ◌∙◌, append_assoc, length, get_or, set, take, Vec, Global, is_some, Ok, IsTrue, add-one, inl, inr, arith}
use Rattle.std.proofs.lemmas.List.{append-nil, get_or_default, set-get_or, get_or-set_same, get_or-set_other}
use Rattle.std.proofs.lemmas.List.Sums.{sum_by-cons}
use Rattle.std.proofs.Math.ListN.{length-set}
use Rattle.std.proofs.lemmas.Bool.{cases_eq, cases_lt}
use Rattle.std.proofs.KnownBytes.{Keeps-refl}
use Rattle.std.specs.Prelude.{IfSome, IsSomeAnd}
use Rattle.std.specs.Io.KnownBytes.{Keeps}
use Rattle.dep_types.specs.Conditions.{Condition}
use Rattle.dep_hub.specs.Holding.{KeepsHolding, RepresentsHolding, RestsOn, IsHeldAs}
use Rattle.dep_hub.specs.RepresentsOwing.{behind_at}
use Rattle.dep_hub.specs.WorkingAhead.{RestsAhead}
use Rattle.dep_hub.specs.declared.connections.Connection.{Connection}
use Rattle.dep_hub.specs.declared.rest.Behind.TheVariants.{Nothing}
use Rattle.dep_types.specs.State.{State}
use Rattle.dep_types.specs.declared.config.Config.{Config}
use Rattle.dep_types.specs.Conditions.{Represents}
use Rattle.dep_hub.specs.declared.hub.Hub.{Hub}
use Rattle.dep_exchange.specs.Records.{Line, World}
use Rattle.dep_hub.specs.Representing.{IsClean, IsHonest, intake_of}
use Rattle.dep_exchange.specs.Shut.{ReportsOpen}
use Rattle.dep_exchange.specs.ArchiveCalls.{CallLog, Asked, Runs}
use Rattle.dep_outbox.specs.declared.wire.Wire.{Wire}
use Rattle.dep_outbox.specs.Wires.{reported}
use Rattle.dep_slot.specs.ConnectionStates.{SendsStill, is_ended, closing as why}
use Rattle.dep_slot.specs.declared.slot.Slot.{Slot}
use Rattle.dep_host.specs.declared.host.Host.{Host}
use Rattle.dep_slot.specs.declared.log.Closing.{Closing}
use Rattle.dep_slot.specs.declared.log.Closing.TheVariants.{Large}
use Rattle.dep_slot.specs.declared.connection_state.Phase.TheVariants.{Open}
use Rattle.dep_slot.specs.Notes.{Note, GrowsWhereShown}
use Rattle.dep_slot.specs.Slots.{SameBehind, SameClient}
use Rattle.dep_host.specs.Actions.{Position, slot_at, HostAction, unfinished_of, unfinished_in, IsRightlyReported, Closes}
use Rattle.dep_host.specs.Coming.{comes_from, slots_from}
use Rattle.dep_host.specs.Hosting.{farewell, MayGo, HostStays, Goes, Asks, Refused, HostStep, refused, asks, rests, Steps, begins, goes_on, EvictsLargest}

-- what a log is told
pub grows_none : {X : Type 0} (reported : Option (List X)) → GrowsWhereShown reported reported []
grows_none None = tt
grows_none (Some xs) = sym (append-nil xs)

pub grows_on : {X : Type 0} (old mid new : Option (List X)) (xs ys : List X) → GrowsWhereShown old mid xs → GrowsWhereShown mid new ys → GrowsWhereShown old new (xs ++ ys)
grows_on None mid new xs ys g h = tt
grows_on (Some o) None new xs ys g h = absurd g
grows_on (Some o) (Some m) None xs ys g h = absurd h
grows_on (Some o) (Some m) (Some n) xs ys g h = h ∙ (ap (λ l. l ++ ys) g ∙ append_assoc o xs ys)

pub grows_same : {X : Type 0} (reported reports : Option (List X)) → reports ≡ reported → GrowsWhereShown reported reports []
grows_same {X = X} reported reports same = subst (λ (o : Option (List X)). GrowsWhereShown reported o []) (sym same) (grows_none reported)

-- nobody is busy where neither is
pub neither : (a b : Bool) → (a || b) ≡ false → (a ≡ false) × (b ≡ false)
neither true b h = absurd (let bad : true ≡ false = h in cc)
neither false b h = (refl, h)

-- what was read at a place is what stands there
pub slot_read : {X : Type 0} (at : ℕ) (slots : List (Option X)) (x : Option X) → at < length slots → x ≡ get_or slots at x → slot_at at slots ≡ x
slot_read at slots x there read = get_or_default slots at None x there ∙ sym read

-- so is who is read there
pub read_there : {R K S : Type 0} (at : ℕ) (slots : List (Option (Slot R K S))) (x : Option (Slot R K S)) → at < length slots → x ≡ get_or slots at x
    → IsSomeAnd x (λ slot. slot.state.phase ≡ Open) → IsSomeAnd (slot_at at slots) (λ slot. slot.state.phase ≡ Open)
read_there {R = R} {K = K} {S = S} at slots x there read waits = subst (λ (o : Option (Slot R K S)). IsSomeAnd o (λ slot. slot.state.phase ≡ Open)) (sym (slot_read at slots x there read)) waits

-- nobody is from a place on, also once a place changed to one where nobody is, or where somebody sat
pub free_once_left : {X : Type 0} (slots : List (Option X)) (at end : ℕ) (x : Option X) → at < length slots → x ≡ None → ((place : ℕ) → end ≤ place → slot_at place slots ≡ None)
    → (place : ℕ) → end ≤ place → slot_at place (set slots at x) ≡ None
free_once_left {X = X} slots at end x there none free place h = elim (cases_eq place at) [
  | inl e ↦ subst (λ (n : ℕ). slot_at n (set slots at x) ≡ None) (sym e) (get_or-set_same slots at x None there ∙ none)
  | inr ne ↦ get_or-set_other slots at place x None ne ∙ free place h
]

pub free_where_sat : {X : Type 0} (slots : List (Option X)) (at end : ℕ) (x : Option X) (slot : X) → slot_at at slots ≡ Some slot → ((place : ℕ) → end ≤ place → slot_at place slots ≡ None)
    → (place : ℕ) → end ≤ place → slot_at place (set slots at x) ≡ None
free_where_sat {X = X} slots at end x slot sat free place h = elim (cases_eq place at) [
  | inl e ↦ absurd (let bad : Some slot ≡ None = sym sat ∙ free at (omega (arith, e, h)) in cc)
  | inr ne ↦ get_or-set_other slots at place x None ne ∙ free place h
]

pub within_still : {X : Type 0} (slots : List (Option X)) (at end : ℕ) (x : Option X) → end ≤ length slots → end ≤ length (set slots at x)
within_still slots at end x within = omega (arith, within, length-set slots at x)

-- what holds at the places so far, and at one more
pub each_goes_on : {X : Type 0} (P : Option X → Type 0) (old new : List (Option X)) (at next : ℕ) → ((place : ℕ) → place < at → P (slot_at place old)) → P (slot_at at new)
    → ((place : ℕ) → (place ≡ at → ⊥) → slot_at place new ≡ slot_at place old) → next ≡ at + 1 → (place : ℕ) → place < next → P (slot_at place new)
each_goes_on {X = X} P old new at next before here others e place h = elim (cases_lt place at) [
  | inl lt ↦ subst (λ (x : Option X). P x) (sym (others place (λ is. omega (arith, is, lt)))) (before place lt)
  | inr ge ↦ let is : place ≡ at = omega (arith, ge, h, e) in subst (λ (n : ℕ). P (slot_at n new)) (sym is) here
]

-- so it does where nothing changes: what was read at the one more is looked at
pub one_more : {X : Type 0} (P : Option X → Type 0) (slots : List (Option X)) (at : ℕ) (x : Option X) → at < length slots → x ≡ get_or slots at x → P x → ((place : ℕ) → place < at → P (slot_at place slots))
    → (place : ℕ) → place < at + 1 → P (slot_at place slots)
one_more {X = X} P slots at x there read here before =
    each_goes_on P slots slots at (at + 1) before (subst (λ (y : Option X). P y) (sym (slot_read at slots x there read)) here) (λ place ne. refl) refl

-- whether somebody was read there
pub somebody : {X : Type 0} (x : Option X) → is_some x ≡ true → x ≡ None → ⊥
somebody None there e = let bad : false ≡ true = there in cc
somebody (Some slot) there e = cc

pub nobody : {X : Type 0} (x : Option X) → is_some x ≡ false → x ≡ None
nobody None gone = refl
nobody (Some slot) gone = let bad : true ≡ false = gone in cc

-- so at all places, where it holds where nobody is, also once one was closed
pub each_evicts : {X : Type 0} (P : Option X → Type 0) (old new : List (Option X)) (at : ℕ) → P None → ((place : ℕ) → at ≤ place → slot_at place old ≡ None) → ((place : ℕ) → place < at → P (slot_at place old))
    → ((place : ℕ) → (slot_at place new ≡ slot_at place old) ⊎ (slot_at place new ≡ None)) → (place : ℕ) → P (slot_at place new)
each_evicts {X = X} P old new at none all before stays place = elim (stays place) [
  | inl e ↦ subst (λ (x : Option X). P x) (sym e) (elim (cases_lt place at) [
    | inl lt ↦ before place lt
    | inr ge ↦ subst (λ (x : Option X). P x) (sym (all place (omega (arith, ge)))) none
  ])
  | inr e ↦ subst (λ (x : Option X). P x) (sym e) none
]

-- nothing is behind the last reply of a connection that isn't there
absent_at : (c : Connection) (connections : List Connection) (number : ℕ) (here : Bool) → (c.number == number) ≡ here
    → (intake_of connections number ≡ None → behind_at connections number ≡ Nothing)
    → intake_of (c ∷ connections) number ≡ None → behind_at (c ∷ connections) number ≡ Nothing
absent_at c connections number true is rest absent = absurd (let bad : Some c.intake ≡ None = sym (ap (λ (b : Bool). if b then Some c.intake else intake_of connections number) is) ∙ absent in cc)
absent_at c connections number false is rest absent = ap (λ (b : Bool). if b then c.behind else behind_at connections number) is
    ∙ rest (sym (ap (λ (b : Bool). if b then Some c.intake else intake_of connections number) is) ∙ absent)

absent_behind : (connections : List Connection) (number : ℕ) → intake_of connections number ≡ None → behind_at connections number ≡ Nothing
absent_behind [] number absent = refl
absent_behind (c ∷ connections) number absent = absent_at c connections number (c.number == number) refl (λ h. absent_behind connections number h) absent

pub nothing_behind : (old new : List Connection) (number : ℕ) → behind_at new number ≡ behind_at old number → intake_of old number ≡ None → behind_at new number ≡ Nothing
nothing_behind old new number same absent = same ∙ absent_behind old number absent

-- who is at a place is closed for a reason
pub closes_there : {A R K S : Type 0} (p : Position A R K S) (at second : ℕ) (slot : Slot R K S) (reported : Option Closing) (reason : Closing) → slot_at at p.slots ≡ Some slot → reported ≡ why slot.state second p.limits
    → reported ≡ Some reason → MayGo p second reason (slot_at at p.slots)
closes_there {R = R} {K = K} {S = S} p at second slot reported reason sat e is = subst (λ (o : Option (Slot R K S)). MayGo p second reason o) (sym sat) (inl (sym e ∙ is))

-- nobody is closed where nobody is
pub nobody_may_go : {A R K S : Type 0} (p : Position A R K S) (second : ℕ) (reason : Closing) (x : Option (Slot R K S)) → MayGo p second reason x → x ≡ None → ⊥
nobody_may_go p second reason x may e = subst (λ o. MayGo p second reason o) e may

-- nothing of what stays changed
pub stays_same : {A R K S : Type 0} (p : Host A R K S) → HostStays p p
stays_same p = record { places = refl; limits = refl; shut = refl; unanswered = refl; first = refl }

-- one place changed
pub stays_set : {A R K S : Type 0} (p q : Host A R K S) (at : ℕ) (x : Option (Slot R K S)) → q.slots.items ≡ set p.slots.items at x → q.limits ≡ p.limits → q.shut ≡ p.shut
    → q.unanswered ≡ p.unanswered → q.first ≡ p.first → HostStays p q
stays_set {R = R} {K = K} {S = S} p q at x slots limits shut unanswered first = record {
  places = ap (λ (l : List (Option (Slot R K S))). length l) slots ∙ length-set p.slots.items at x;
  limits = limits;
  shut = shut;
  unanswered = unanswered;
  first = first;
}

pub stays_on : {A R K S : Type 0} (p q r : Host A R K S) → HostStays p q → HostStays q r → HostStays p r
stays_on p q r s t = record {
  places = t.places ∙ s.places;
  limits = t.limits ∙ s.limits;
  shut = t.shut ∙ s.shut;
  unanswered = t.unanswered ∙ s.unanswered;
  first = t.first ∙ s.first;
}

-- the store is shut where the hub tells that it is
pub reported_shut : (c : Condition) (is_open : Bool) → is_open ≡ false → ReportsOpen c is_open → ¬ IsTrue c.is_open
reported_shut c is_open e reported = subst (λ (b : Bool). ReportsOpen c b) e reported

pub reported_open : (c : Condition) (is_open : Bool) → is_open ≡ true → ReportsOpen c is_open → ReportsOpen c true
reported_open c is_open e reported = subst (λ (b : Bool). ReportsOpen c b) e reported

pub reported_as : (x y : CallLog) (b c : Bool) → b ≡ c → Runs (Asked (Ok b)) x y → Runs (Asked (Ok c)) x y
reported_as x y b c e asked = subst (λ (b : Bool). Runs (Asked (Ok b)) x y) e asked

-- nobody is at one place more
pub none_more : {X : Type 0} (slots : List (Option X)) → ((at : ℕ) → slot_at at slots ≡ None) → (at : ℕ) → slot_at at (slots ++ None ∷ []) ≡ None
none_more [] h zero = refl
none_more [] h (suc at) = refl
none_more (s ∷ slots) h zero = h zero
none_more (s ∷ slots) h (suc at) = none_more slots (λ n. h (suc n)) at

-- the largest may be closed
pub too_large : {A R K S : Type 0} (p : Position A R K S) (at second : ℕ) (x : Option (Slot R K S)) → slot_at at p.slots ≡ x → IsSomeAnd x (λ slot. slot.state.phase ≡ Open)
    → ((place : ℕ) → unfinished_of (slot_at place p.slots) ≤ unfinished_of (slot_at at p.slots)) → p.limits.unfinished_bytes < unfinished_in p.slots → MayGo p second Large (slot_at at p.slots)
too_large p at second None e waits most full = absurd waits
too_large {R = R} {K = K} {S = S} p at second (Some slot) e waits most full = subst (λ (o : Option (Slot R K S)). MayGo p second Large o) (sym e) (inr (
  refl,
  record {
    full = full;
    largest = λ place. subst (λ (o : Option (Slot R K S)). unfinished_of (slot_at place p.slots) ≤ unfinished_of o) e (most place);
    waits = waits;
  },
))

-- how many bytes are kept for all at the places so far, and at one more
kept_suc : {R K S : Type 0} (slots : List (Option (Slot R K S))) (at : ℕ) → at < length slots → unfinished_in (take (suc at) slots) ≡ unfinished_in (take at slots) + unfinished_of (slot_at at slots)
kept_suc [] at h = absurd (let none : ⊥ = omega (arith, h) in none)
kept_suc (s ∷ slots) zero h =
    let e : unfinished_in (take (suc zero) (s ∷ slots)) ≡ unfinished_of s + unfinished_in (take zero slots) = refl in
    let z : unfinished_in (take zero slots) ≡ 0 = refl in
    let y : unfinished_in (take zero (s ∷ slots)) ≡ 0 = refl in
    let f : unfinished_of (slot_at zero (s ∷ slots)) ≡ unfinished_of s = refl in
    omega (arith, e, z, y, f)
kept_suc (s ∷ slots) (suc at) h =
    let more = kept_suc slots at (omega (arith, h)) in
    let e : unfinished_in (take (suc (suc at)) (s ∷ slots)) ≡ unfinished_of s + unfinished_in (take (suc at) slots) = refl in
    let y : unfinished_in (take (suc at) (s ∷ slots)) ≡ unfinished_of s + unfinished_in (take at slots) = refl in
    let f : unfinished_of (slot_at (suc at) (s ∷ slots)) ≡ unfinished_of (slot_at at slots) = refl in
    omega (arith, more, e, y, f)

pub kept_more : {R K S : Type 0} (slots : List (Option (Slot R K S))) (at : ℕ) → at < length slots → unfinished_in (take (at + 1) slots) ≡ unfinished_in (take at slots) + unfinished_of (slot_at at slots)
kept_more slots at h = ap (λ (n : ℕ). unfinished_in (take n slots)) (add-one at) ∙ kept_suc slots at h

-- all that is kept is kept at the first places, where nobody is behind them
pub kept_front : {R K S : Type 0} (slots : List (Option (Slot R K S))) (n : ℕ) → ((at : ℕ) → n ≤ at → slot_at at slots ≡ None) → unfinished_in slots ≡ unfinished_in (take n slots)
kept_front [] zero none = refl
kept_front [] (suc n) none = refl
kept_front (s ∷ slots) zero none =
    let rest = kept_front slots zero (λ at h. none (suc at) (omega arith)) in
    let here = ap (λ x. unfinished_of x) (none zero (omega arith)) in
    let e : unfinished_in (s ∷ slots) ≡ unfinished_of s + unfinished_in slots = refl in
    let z : unfinished_in (take zero slots) ≡ 0 = refl in
    let y : unfinished_in (take zero (s ∷ slots)) ≡ 0 = refl in
    let f : unfinished_of (slot_at zero (s ∷ slots)) ≡ unfinished_of s = refl in
    omega (arith, rest, here, e, z, y, f)
kept_front (s ∷ slots) (suc n) none = ap (λ (k : ℕ). unfinished_of s + k) (kept_front slots n (λ at h. none (suc at) (omega (arith, h))))

-- so are all who come from an address
abbrev from_here : {R K S : Type 0} → ℕ → Option (Slot R K S) → ℕ
from_here from s = cond (comes_from from s) 1 0

pub from_front : {R K S : Type 0} (from : ℕ) (slots : List (Option (Slot R K S))) (n : ℕ) → ((at : ℕ) → n ≤ at → slot_at at slots ≡ None) → slots_from from slots ≡ slots_from from (take n slots)
from_front from [] zero none = refl
from_front from [] (suc n) none = refl
from_front from (s ∷ slots) zero none =
    let rest = from_front from slots zero (λ at h. none (suc at) (omega arith)) in
    let here : from_here from s ≡ 0 = ap (λ x. from_here from x) (none zero (omega arith)) in
    let e : slots_from from (s ∷ slots) ≡ from_here from s + slots_from from slots = sum_by-cons (from_here from) s slots in
    let z : slots_from from (take zero slots) ≡ 0 = refl in
    let y : slots_from from (take zero (s ∷ slots)) ≡ 0 = refl in
    omega (arith, rest, here, e, z, y)
from_front from (s ∷ slots) (suc n) none =
    sum_by-cons (from_here from) s slots ∙ (ap (λ (k : ℕ). from_here from s + k) (from_front from slots n (λ at h. none (suc at) (omega (arith, h)))) ∙ sym (sum_by-cons (from_here from) s (take n slots)))

module _ {A R K S : Type 0} (condition : A → Condition) (unread : R → Option (List ℕ)) (taken : K → Option (List ℕ)) (held : S → Option (List ℕ)) where
  pub represents_still : (p : Position A R K S) → Steps condition unread taken held p [] p
  represents_still p = begins

  pub alone : (p q : Position A R K S) (more : List HostAction) → HostStep condition unread taken held p q more → Steps condition unread taken held p more q
  alone p q more s = goes_on begins s

  pub steps_join : {p q r : Position A R K S} {xs ys : List HostAction} → Steps condition unread taken held p xs q → Steps condition unread taken held q ys r → Steps condition unread taken held p (xs ++ ys) r
  steps_join {p = p} {q = q} {xs = xs} s begins = subst (λ (l : List HostAction). Steps condition unread taken held p l q) (sym (append-nil xs)) s
  steps_join {p = p} {r = r} {xs = xs} s (goes_on {actions = ys} {more = more} t step) =
      subst (λ (l : List HostAction). Steps condition unread taken held p l r) (append_assoc xs ys more) (goes_on (steps_join s t) step)

  -- no connection could be opened
  pub unopened : (p q : Position A R K S) → q.slots ≡ p.slots → q.hub.next ≡ p.hub.next → SameBehind p.hub q.hub → ((lines : ℕ → Line) (kept : ℕ → List ℕ) → KeepsHolding condition p.hub lines kept → KeepsHolding condition q.hub lines kept)
      → q.hub.store ≡ p.hub.store → q.hub.config ≡ p.hub.config → q.limits ≡ p.limits → q.shut ≡ p.shut → Refused condition unread taken held p q
  unopened p q slots next behind keeps store config limits shut =
      record { sits = slots; next = next; keeps = keeps; behind = behind; same_store = store; same_config = config; same_limits = limits; same_shut = shut }

  -- nothing changed
  pub untouched : (p q : Position A R K S) → q.hub ≡ p.hub → q.limits ≡ p.limits → q.shut ≡ p.shut → q.slots ≡ p.slots → Refused condition unread taken held p q
  untouched p q hub limits shut slots =
      unopened p q slots (ap (λ (h : Hub A). h.next) hub) (λ number. ap (λ (h : Hub A). behind_at h.connections.items number) hub) (λ lines kept h. subst (λ (k : Hub A). KeepsHolding condition k lines kept) (sym hub) h)
      (ap (λ (h : Hub A). h.store) hub) (ap (λ (h : Hub A). h.config) hub) limits shut

  -- a place was looked at, and stands as it stood
  pub unchanged : (p q : Position A R K S) (at : ℕ) (x : Option (Slot R K S)) → q.hub ≡ p.hub → q.limits ≡ p.limits → q.shut ≡ p.shut → q.slots ≡ set p.slots at x → at < length p.slots → x ≡ get_or p.slots at x
      → HostStep condition unread taken held p q []
  unchanged p q at x hub limits shut slots there read =
      refused (untouched p q hub limits shut (slots ∙ (ap (λ (y : Option (Slot R K S)). set p.slots at y) read ∙ set-get_or p.slots at x)))

  -- the hub was asked whether its store is open
  pub asked : (p q : Position A R K S) → Asks condition unread taken held p q → Steps condition unread taken held p [] q
  asked p q a = goes_on begins (asks a)

  -- and no connection had a part in it
  represents_still_at : (old new : Hub A) → ((s : State) → Represents (condition old.store) s → Represents (condition new.store) s) → new.config ≡ old.config → new.connections ≡ old.connections
      → (w : World) (kept : ℕ → List ℕ) → RepresentsHolding condition old w kept → RepresentsHolding condition new w kept
  represents_still_at old new keeps config connections w kept h = record {
    state = keeps w.state h.state;
    kept = λ number. subst (λ (k : Config). IsHeldAs k.max_upload (w.line number) (kept number) (intake_of new.connections.items number)) (sym config)
        (subst (λ (cs : Vec Connection Global). IsHeldAs old.config.max_upload (w.line number) (kept number) (intake_of cs.items number)) (sym connections) (h.kept number));
  }

  pub asked_alone : (p q : Position A R K S) (KeepsSo : Condition → Condition → Type 0) → RestsOn condition KeepsSo p.hub q.hub
      → (IsClean condition q.hub → (s : State) → Represents (condition p.hub.store) s → Represents (condition q.hub.store) s)
      → (IsClean condition q.hub → IsClean condition p.hub) → (IsHonest condition q.hub → IsHonest condition p.hub)
      → q.slots ≡ p.slots → q.limits ≡ p.limits → (q.shut ≡ p.shut) ⊎ ((is_some p.shut ≡ false) × IsRightlyReported condition q) → Steps condition unread taken held p [] q
  asked_alone p q KeepsSo r keeps clean honest slots limits reported =
      asked p q (record {
        sits = slots;
        hub = record { next = r.next; same_config = r.config; clean = clean; honest = honest };
        represents = λ is_clean w kept h. represents_still_at p.hub q.hub (keeps is_clean) r.config r.connections w kept h;
        behind = inl (λ number. ap (λ (cs : Vec Connection Global). behind_at cs.items number) r.connections);
        same_limits = limits;
        reported = reported;
      })

  -- the hub worked ahead
  pub ahead_alone : (p q : Position A R K S) → RestsAhead condition p.hub q.hub → q.slots ≡ p.slots → q.limits ≡ p.limits → q.shut ≡ p.shut → Steps condition unread taken held p [] q
  ahead_alone p q r slots limits shut =
      asked p q (record {
        sits = slots;
        hub = record { next = r.next; same_config = r.config; clean = r.store.was_open; honest = r.store.honest };
        represents = λ clean w kept h. record {
          state = r.store.kept clean w.state h.state;
          kept = λ number. subst (λ (k : Config). IsHeldAs k.max_upload (w.line number) (kept number) (intake_of q.hub.connections.items number)) (sym r.config)
              (subst (λ i. IsHeldAs p.hub.config.max_upload (w.line number) (kept number) i) (sym (r.intakes number)) (h.kept number));
        };
        behind = inr r;
        same_limits = limits;
        reported = inl shut;
      })

  -- a connection took note of something, and neither its bytes nor its phase changed
  pub woken : (p q : Position A R K S) (at : ℕ) (before after : Slot R K S) → at < length p.slots → slot_at at p.slots ≡ Some before → q.slots ≡ set p.slots at (Some after)
      → q.hub ≡ p.hub → q.limits ≡ p.limits → q.shut ≡ p.shut → SameClient before after → after.source ≡ before.source → after.wire ≡ before.wire
      → (after.state.phase ≡ Open → before.state.phase ≡ Open) → SendsStill before.state.phase after.state.phase → (is_ended before.state.phase ≡ true → is_ended after.state.phase ≡ true)
      → after.state.unfinished ≡ before.state.unfinished → Steps condition unread taken held p [] q
  woken p q at before after there sat sits hub limits shut client source wire opens still ended count = goes_on begins (rests {at = at} {before = before} {after = after} (record {
    there = there;
    sat = sat;
    sits = sits;
    client = client;
    hub = record {
      next = ap (λ (h : Hub A). h.next) hub;
      same_config = ap (λ (h : Hub A). h.config) hub;
      clean = λ h. subst (λ (k : Hub A). IsClean condition k) hub h;
      honest = λ h. subst (λ (k : Hub A). IsHonest condition k) hub h;
    };
    ended = ended;
    same_limits = limits;
    same_shut = shut;
  }) (record {
    same = hub;
    keeps = subst (λ (w : Wire K S). Keeps (reported taken held before.wire) (reported taken held w)) (sym wire) (Keeps-refl (reported taken held before.wire));
    gives = λ h. subst (λ (r : R). Keeps (unread before.source) (unread r)) (sym source) (Keeps-refl (unread before.source));
    opens = opens;
    sends_still = still;
    keeps_count = λ h. count;
  }))

  -- who was at a place was closed, or nobody was there
  pub closing : (p q : Position A R K S) (at second : ℕ) (reason : Closing) (x : Option (Slot R K S)) (slot : Slot R K S) → x ≡ Some slot → Goes condition unread taken held p q at second reason slot
      → IfSome x (Goes condition unread taken held p q at second reason)
  closing p q at second reason x slot e g = subst (λ (o : Option (Slot R K S)). IfSome o (Goes condition unread taken held p q at second reason)) (sym e) g

  -- the largest was closed
  pub evict_one : (p q : Position A R K S) (at second : ℕ) (reported reports : Option (List Note)) (x : Option (Slot R K S)) → slot_at at p.slots ≡ x → IsSomeAnd x (λ slot. slot.state.phase ≡ Open)
      → IfSome x (Goes condition unread taken held p q at second Large) → GrowsWhereShown reported reports (farewell Large x) → (actions : List HostAction) × EvictsLargest condition unread taken held p q second actions reported reports
  evict_one p q at second reported reports None e waits g noted = absurd waits
  evict_one p q at second reported reports (Some slot) e waits g noted = (Closes at slot.connection second Large ∷ [], inr (at, slot, g, refl, noted))
