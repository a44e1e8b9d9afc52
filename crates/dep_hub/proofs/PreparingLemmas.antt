-- Requests that are prepared, in steps.
use Rattle.std.proofs.Common.{◌≡◌, ◌≢◌, ◌⊎◌, inl, inr, ℕ, suc, zero, ◌==◌, ◌+◌, ◌≤◌, ◌<◌, Bool, true, false, List, [], ◌∷◌, ◌++◌, length, get_or, set, Option, None, Some, if◌then◌else◌, refl, sym, ap, subst, ◌∙◌, arith, append_assoc}
use Rattle.std.proofs.lemmas.Bool.{cases_lt, cases_Bool, eq-eqb, eqb-true}
use Rattle.std.proofs.lemmas.Bool.Decides.{nat_tests}
use Rattle.std.specs.Option.{option_map}
use Rattle.dep_types.specs.State.{State}
use Rattle.dep_types.specs.Conditions.{Condition}
use Rattle.dep_types.specs.declared.config.Config.{Config}
use Rattle.dep_message.specs.Giving.{HasFirstHead}
use Rattle.dep_message.specs.Places.{Place, Open, Shut, Reading}
use Rattle.dep_message.specs.Stream.{Request, FirstAt}
use Rattle.dep_message.specs.Working.{IsBegun}
use Rattle.dep_message.specs.declared.message.Message.{Message}
use Rattle.dep_message.proofs.Bodies.{begins_with_head}
use Rattle.dep_exchange.specs.Archives.{KeepsEachState}
use Rattle.dep_hub.specs.Claims.{is_content, is_pending, is_waiting, sends_of}
use Rattle.dep_hub.specs.Holding.{IsHeldAs}
use Rattle.dep_hub.specs.Numbers.{place_of_number, Ascends}
use Rattle.dep_hub.specs.Owed.{IsOwed}
use Rattle.dep_hub.specs.Preparing.{HasTurn, MakesStepFor, goes_on, ends, is_preparing, step_bound}
use Rattle.dep_exchange.specs.Records.{Run, stops, stopped, first_world}
use Rattle.dep_hub.specs.Representing.{intake_of, store_of}
use Rattle.dep_hub.specs.RepresentsOwing.{KeptBack, unsent, prepares_still, begins_to_prepare, waits_still, begins_to_wait, lacks_memory, behind_at}
use Rattle.dep_hub.specs.WorkingAhead.{AheadContents, AheadEnds, AheadRepresents, AheadTakesTurns, MakesOneStep, for_none, for_one, PreparesOnce, RestsAhead, steps_below}
use Rattle.dep_hub.specs.declared.claim.Claim.{Claim}
use Rattle.dep_hub.specs.declared.claim.Files.{Files}
use Rattle.dep_hub.specs.declared.connections.Connection.{Connection}
use Rattle.dep_hub.specs.declared.hub.Hub.{Hub}
use Rattle.dep_hub.specs.declared.rest.Behind.{Behind}
use Rattle.dep_hub.specs.declared.rest.Behind.TheVariants.{Nothing, Content, Broken, Waits, Prepares, Prepared}
use Rattle.dep_hub.proofs.BehindLemmas.{behind_some, behinds_are, intakes_stay, others_are}
use Rattle.dep_hub.proofs.ConnectionLemmas.{ascends_le}
use Rattle.dep_exchange.proofs.Leaving.{leaves_wider}
use Rattle.dep_hub.proofs.TurnLemmas.{turn_of, comes_nearer, was_prepared}
use Rattle.dep_hub.proofs.PendingLemmas.{true_false}

-- a request that stands first begins with a head
pub request_head : (limit : ℕ) (at next : Place) (m : Message) → FirstAt limit at (Request m) next → HasFirstHead at
request_head limit (Open continued bytes) next m f =
    let h = f.spelled.has_head in
    let begun : IsBegun limit continued h.front m.head f.spelled.frame = record { is_head = h.is_head; framed = h.framed; due_is = h.due_is } in
    subst (λ (l : List ℕ). HasFirstHead (Open continued l))
    (sym (f.whole ∙ (ap (λ (l : List ℕ). l ++ f.behind) h.whole ∙ append_assoc h.front f.spelled.body f.behind)))
    (begins_with_head limit continued h.front (f.spelled.body ++ f.behind) m.head f.spelled.frame begun)
request_head limit Shut next m f = absurd f

-- ---- a connection whose next request is prepared

-- each connection has the index at which it stands
found_here : (n : ℕ) (d : Connection) (cs : List Connection) (i : ℕ) → (d.number == n) ≡ false → place_of_number n cs ≡ Some i → place_of_number n (d ∷ cs) ≡ Some (suc i)
found_here n d cs i other e = rw other (ap (option_map suc) e)

index_at : (low high i : ℕ) (cs : List Connection) (c : Connection) → Ascends low cs high → i < length cs → c ≡ get_or cs i c
    → (place_of_number c.number cs ≡ Some i) × (low ≤ c.number)
index_at low high i [] c a l item = absurd (omega (arith, l))
index_at low high zero (d ∷ cs) c a l item =
    let same : d.number ≡ c.number = ap (λ (x : Connection). x.number) (sym item) in
    (rw (eq-eqb d.number c.number same) refl, subst (λ (k : ℕ). low ≤ k) same a.0)
index_at low high (suc i) (d ∷ cs) c a l item =
    let x = index_at (d.number + 1) high i cs c a.1 (omega (arith, l)) item in
    let above : d.number + 1 ≤ c.number = x.1 in
    let lowest : low ≤ d.number = a.0 in
    let other : (d.number == c.number) ≡ false = grind (arith, nat_tests, above) in
    (found_here c.number d cs i other x.0, omega (arith, above, lowest))

-- who is not below the end isn't there
behind_beyond : (low high n : ℕ) (cs : List Connection) → Ascends low cs high → high ≤ n → behind_at cs n ≡ Nothing
behind_beyond low high n [] a l = refl
behind_beyond low high n (c ∷ cs) a l =
    let below : c.number + 1 ≤ high = ascends_le (c.number + 1) high cs a.1 in
    let h = behind_beyond (c.number + 1) high n cs a.1 l in grind (arith, nat_tests, h)

pub preparing_below : (n high : ℕ) (cs : List Connection) → Ascends 0 cs high → is_preparing (behind_at cs n) ≡ true → n < high
preparing_below n high cs a e = elim (cases_lt n high) [
  | inl lt ↦ lt
  | inr ge ↦ absurd (true_false (sym e ∙ ap is_preparing (behind_beyond 0 high n cs a ge)))
]

-- ---- a step

was_preparing : (was now : Behind) → MakesStepFor was now → is_preparing was ≡ true
was_preparing was now (goes_on left w n) = ap is_preparing w
was_preparing was now (ends left w n) = ap is_preparing w

step_fewer : (was now : Behind) → MakesStepFor was now → step_bound now < step_bound was
step_fewer was now (goes_on left w n) = subst (λ (k : ℕ). step_bound now < k) (sym (ap step_bound w)) (subst (λ (k : ℕ). k < left + 1 + 1) (sym (ap step_bound n)) (omega arith))
step_fewer was now (ends left w n) = subst (λ (k : ℕ). step_bound now < k) (sym (ap step_bound w)) (subst (λ (k : ℕ). k < left + 1) (sym (ap step_bound n)) (omega arith))

step_owes : (s : State) (owed : List ℕ) (was now : Behind) → MakesStepFor was now → IsOwed s was owed → IsOwed s now owed
step_owes s owed was now (goes_on left w n) h = subst (λ (b : Behind). IsOwed s b owed) (sym n) (subst (λ (b : Behind). IsOwed s b owed) w h)
step_owes s owed was now (ends left w n) h = subst (λ (b : Behind). IsOwed s b owed) (sym n) (subst (λ (b : Behind). IsOwed s b owed) w h)

step_content : (was now : Behind) → MakesStepFor was now → is_content now ≡ is_content was
step_content was now (goes_on left w n) = ap is_content n ∙ sym (ap is_content w)
step_content was now (ends left w n) = ap is_content n ∙ sym (ap is_content w)

step_sends : (files : Files) (was now : Behind) → MakesStepFor was now → sends_of files now ≡ sends_of files was
step_sends files was now (goes_on left w n) = ap (sends_of files) n ∙ sym (ap (sends_of files) w)
step_sends files was now (ends left w n) = ap (sends_of files) n ∙ sym (ap (sends_of files) w)

pub step_idle : (was now : Behind) → MakesStepFor was now → is_pending now ≡ is_pending was
step_idle was now (goes_on left w n) = ap is_pending n ∙ sym (ap is_pending w)
step_idle was now (ends left w n) = ap is_pending n ∙ sym (ap is_pending w)

pub step_still : (was now : Behind) → MakesStepFor was now → is_waiting now ≡ is_waiting was
step_still was now (goes_on left w n) = ap is_waiting n ∙ sym (ap is_waiting w)
step_still was now (ends left w n) = ap is_waiting n ∙ sym (ap is_waiting w)

prepared_whole : Prepared ≡ Broken → ⊥
prepared_whole e = cc e

prepares_whole : (left : ℕ) → Prepares left ≡ Broken → ⊥
prepares_whole left e = cc e

step_whole : (was now : Behind) → MakesStepFor was now → now ≡ Broken → was ≡ Broken
step_whole was now (goes_on left w n) e = absurd (prepares_whole left (sym n ∙ e))
step_whole was now (ends left w n) e = absurd (prepared_whole (sym n ∙ e))

pub ended : (b : Behind) → is_preparing b ≡ true → MakesStepFor b Prepared
ended (Prepares left) e = ends left refl refl
ended Nothing e = cc e
ended (Content r) e = cc e
ended Broken e = cc e
ended (Waits claim) e = cc e
ended Prepared e = cc e

-- ---- the steps that are left

steps_same : (xs ys : List Connection) (n k : ℕ) → n ≤ k → ((m : ℕ) → m ≢ k → behind_at ys m ≡ behind_at xs m) → steps_below ys n ≡ steps_below xs n
steps_same xs ys zero k l others = refl
steps_same xs ys (suc n) k l others =
    let other : n ≢ k = λ e. omega (arith, l, e) in
    let front = steps_same xs ys n k (omega (arith, l)) others in
    let last = ap step_bound (others n other) in
    omega (arith, front, last)

steps_fewer : (xs ys : List Connection) (n k : ℕ) → k < n → ((m : ℕ) → m ≢ k → behind_at ys m ≡ behind_at xs m)
    → step_bound (behind_at ys k) < step_bound (behind_at xs k) → steps_below ys n < steps_below xs n
steps_fewer xs ys zero k l others fewer = absurd (omega (arith, l))
steps_fewer xs ys (suc n) k l others fewer = elim (cases_lt k n) [
  | inl lt ↦
      let other : n ≢ k = λ e. omega (arith, lt, e) in
      let front = steps_fewer xs ys n k lt others fewer in
      let last = ap step_bound (others n other) in
      omega (arith, front, last)
  | inr ge ↦
      let same : k ≡ n = omega (arith, l, ge) in
      let front = steps_same xs ys n k ge others in
      let last = subst (λ (j : ℕ). step_bound (behind_at ys j) < step_bound (behind_at xs j)) same fewer in
      omega (arith, front, last)
]

-- a step was made where a connection stands
one_step : {A : Type 0} (old new : Hub A) (i : ℕ) (c : Connection) (b : Behind) → c ≡ get_or old.connections.items i c
    → MakesStepFor c.behind b → HasTurn old.connections.items old.last_turn old.next i → new.last_turn ≡ c.number
    → new.connections.items ≡ set old.connections.items i (record { number = c.number; intake = c.intake; behind = b })
    → MakesOneStep old new × ((m : ℕ) → intake_of new.connections.items m ≡ intake_of old.connections.items m)
one_step old new i c b item step turn last changed =
    let n = c.number in
    let was_at = old.connections.items in
    let is_at = new.connections.items in
    let within = (was_prepared was_at old.last_turn old.next i c item turn).0 in
    let index = (index_at 0 old.next i was_at c old.ascends within item).0 in
    let behinds = behinds_are n i was_at c b index item c.intake is_at changed in
    let was = behind_some n i was_at c index item in
    let here = behinds n ∙ ap (λ (t : Bool). if t then b else behind_at was_at n) (eq-eqb n n refl) in (
      for_one n (subst (λ (x : Behind). MakesStepFor (behind_at was_at n) x) (sym here)
          (subst (λ (x : Behind). MakesStepFor x b) (sym was) step))
          (others_are n was_at is_at b behinds)
          (turn_of was_at old.last_turn old.next i c item turn) last,
      intakes_stay n i was_at c b index item is_at changed,
    )

-- ---- a hub that worked ahead

module _ {A : Type 0} (condition : A → Condition) (old new : Hub A) where
  pub works_ahead : new.config ≡ old.config → new.next ≡ old.next → ((m : ℕ) → intake_of new.connections.items m ≡ intake_of old.connections.items m)
      → MakesOneStep old new → KeepsEachState (store_of condition old) (store_of condition new) → RestsAhead condition old new
  works_ahead config next intakes step store = record {
    represents = λ clean first records held h. record {
      world = h.world;
      run = subst (λ (x : Config). Run x first records h.world) (sym config) h.run;
      at = record {
        state = store.kept clean h.world.state h.at.state;
        kept = λ m. subst (λ (x : Config). IsHeldAs x.max_upload (h.world.line m) (held m) (intake_of new.connections.items m)) (sym config)
            (subst (λ (o : Option Reading). IsHeldAs old.config.max_upload (h.world.line m) (held m) o) (sym (intakes m)) (h.at.kept m));
      };
    };
    stops = λ honest first records held h.
        leaves_wider (store_of condition new) _ _ (λ found e. subst (λ (s : State). Run old.config first (records ++ stopped ∷ []) (first_world s)) (sym e) (stops h.run))
        (store.stop honest h.world.state h.at.state);
    store = store;
    config = config;
    next = next;
    intakes = intakes;
    step = step;
  }

  -- a step was made for a connection that stands there
  pub steps_ahead : new.config ≡ old.config → new.next ≡ old.next → (i : ℕ) (c : Connection) (b : Behind) → c ≡ get_or old.connections.items i c
      → MakesStepFor c.behind b → HasTurn old.connections.items old.last_turn old.next i → new.last_turn ≡ c.number
      → new.connections.items ≡ set old.connections.items i (record { number = c.number; intake = c.intake; behind = b })
      → KeepsEachState (store_of condition old) (store_of condition new) → RestsAhead condition old new
  steps_ahead config next i c b item step turn last changed store =
      let o = one_step old new i c b item step turn last changed in works_ahead config next o.1 o.0 store

  -- so what is owed, and what is being sent
  by_number : (f : Behind → Behind → Type 0) → ((b : Behind) → f b b) → ((was now : Behind) → MakesStepFor was now → f was now)
      → MakesOneStep old new → (m : ℕ) → f (behind_at old.connections.items m) (behind_at new.connections.items m)
  by_number f same made (for_none none e) m = subst (λ (cs : List Connection). f (behind_at old.connections.items m) (behind_at cs m)) (sym e) (same (behind_at old.connections.items m))
  by_number f same made (for_one n step others turn last) m = elim (cases_Bool (m == n)) [
    | inl here ↦ subst (λ (k : ℕ). f (behind_at old.connections.items k) (behind_at new.connections.items k)) (sym (eqb-true m n here)) (made (behind_at old.connections.items n) (behind_at new.connections.items n) step)
    | inr other ↦
        let apart : m ≢ n = grind (arith, nat_tests, other) in
        subst (λ (x : Behind). f (behind_at old.connections.items m) x) (sym (others m apart)) (same (behind_at old.connections.items m))
  ]

  pub ahead_owes : RestsAhead condition old new → (m : ℕ) (s : State) (owed : List ℕ) → IsOwed s (behind_at old.connections.items m) owed
      → IsOwed s (behind_at new.connections.items m) owed
  ahead_owes w m s owed = by_number (λ (was now : Behind). IsOwed s was owed → IsOwed s now owed) (λ b h. h) (λ was now step. step_owes s owed was now step) w.step m

  pub ahead_contents : AheadContents condition old new
  ahead_contents w m = (
    by_number (λ (was now : Behind). is_content now ≡ is_content was) (λ b. refl) step_content w.step m,
    by_number (λ (was now : Behind). now ≡ Broken → was ≡ Broken) (λ b h. h) step_whole w.step m,
  )

  -- and of which files
  pub ahead_sends : (files : Files) → RestsAhead condition old new → (m : ℕ) → sends_of files (behind_at new.connections.items m) ≡ sends_of files (behind_at old.connections.items m)
  ahead_sends files w m = by_number (λ (was now : Behind). sends_of files now ≡ sends_of files was) (λ b. refl) (step_sends files) w.step m

  pub ahead_represents : AheadRepresents condition old new
  ahead_represents w clean world held owed h = record {
    at = record {
      state = w.store.kept clean world.state h.at.state;
      kept = λ m. subst (λ (x : Config). IsHeldAs x.max_upload (world.line m) (held m) (intake_of new.connections.items m)) (sym w.config)
          (subst (λ (o : Option Reading). IsHeldAs old.config.max_upload (world.line m) (held m) o) (sym (w.intakes m)) (h.at.kept m));
    };
    owes = λ m. ahead_owes w m world.state (owed m) (h.owes m);
  }

  pub ahead_ends : AheadEnds condition old new
  ahead_ends w m is = elim w.step [
    | for_none none e ↦ absurd (true_false (sym is ∙ none m))
    | for_one n step others turn last ↦
        let was = was_preparing (behind_at old.connections.items n) (behind_at new.connections.items n) step in
        let below = preparing_below n old.next old.connections.items old.ascends was in
        subst (λ (k : ℕ). steps_below new.connections.items k < steps_below old.connections.items old.next) (sym w.next)
        (steps_fewer old.connections.items new.connections.items old.next n below others
        (step_fewer (behind_at old.connections.items n) (behind_at new.connections.items n) step))
  ]

  pub ahead_takes_turns : AheadTakesTurns condition old new
  ahead_takes_turns w m is = elim w.step [
    | for_none none e ↦ absurd (true_false (sym is ∙ none m))
    | for_one n step others turn last ↦
        let was = was_preparing (behind_at old.connections.items n) (behind_at new.connections.items n) step in
        let below = preparing_below n old.next old.connections.items old.ascends was in
        let within = preparing_below m old.next old.connections.items old.ascends is in
        elim (cases_Bool (m == n)) [
          | inl here ↦ inl (subst (λ (k : ℕ). MakesStepFor (behind_at old.connections.items k) (behind_at new.connections.items k)) (sym (eqb-true m n here)) step)
          | inr other ↦
              let apart : m ≢ n = grind (arith, nat_tests, other) in
              inr (comes_nearer old new n m w.next w.intakes turn last was below is within apart)
        ]
  ]

waits_as : (b : Behind) (claim : Claim) → b ≡ Waits claim → is_preparing b ≡ true → ⊥
waits_as b claim e p = true_false (sym p ∙ ap is_preparing e)

prepared_as : (b : Behind) → b ≡ Prepared → is_preparing b ≡ true → ⊥
prepared_as b e p = true_false (sym p ∙ ap is_preparing e)

once : (cs : List Connection) (reading : Reading) (was now : Behind) → KeptBack cs reading was now → is_preparing now ≡ true → (was ≡ Nothing) ⊎ (now ≡ was)
once cs reading was now (unsent u e) p = inr e
once cs reading was now (prepares_still u e) p = inr e
once cs reading was now (begins_to_prepare w n e) p = inl w
once cs reading was now (waits_still claim w e t) p = absurd (waits_as now claim e p)
once cs reading was now (begins_to_wait claim u c e t) p = absurd (waits_as now claim e p)
once cs reading was now (lacks_memory u f h e) p = absurd (prepared_as now e p)

pub prepares_once : {A : Type 0} (condition : A → Condition) (old new : Hub A) → PreparesOnce condition old new
prepares_once condition old new taken takes failures failures_after n k p =
    once old.connections.items k.reading (behind_at old.connections.items n) (behind_at new.connections.items n) k.why p

-- who has an index is there
some_index : (o : Option ℕ) (i : ℕ) → option_map suc o ≡ Some i → (j : ℕ) × (o ≡ Some j)
some_index None i e = cc
some_index (Some j) i e = (j, refl)

there_at : (n i : ℕ) (c : Connection) (cs : List Connection) (b : Bool) → (if b then Some 0 else option_map suc (place_of_number n cs)) ≡ Some i
    → (if b then Some c.intake else intake_of cs n) ≡ None → ((j : ℕ) → place_of_number n cs ≡ Some j → intake_of cs n ≡ None → ⊥) → ⊥
there_at n i c cs true e none k = cc none
there_at n i c cs false e none k = let x = some_index (place_of_number n cs) i e in k x.0 x.1 none

pub there_none : (n i : ℕ) (cs : List Connection) → place_of_number n cs ≡ Some i → intake_of cs n ≡ None → ⊥
there_none n i [] e none = cc e
there_none n i (c ∷ cs) e none = there_at n i c cs (c.number == n) e none (λ j. there_none n j cs)
