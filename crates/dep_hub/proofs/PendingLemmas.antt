-- Contents that are being sent, and requests that wait.
use Rattle.std.proofs.Common.{◌≡◌, ◌≢◌, ◌⊎◌, inl, inr, ℕ, suc, zero, ◌==◌, ◌+◌, ◌≤◌, ◌<◌, ◌||◌, Bool, true, false, List, [], ◌∷◌, ◌++◌, length, get_or, set, Option, None, Some, if◌then◌else◌, refl, sym, ap, subst, ◌∙◌, arith}
use Rattle.std.proofs.lemmas.Bool.{eq-eqb, eqb-true}
use Rattle.std.proofs.lemmas.Bool.Decides.{nat_tests}
use Rattle.std.specs.List.{list_any}
use Rattle.dep_types.specs.State.{State}
use Rattle.dep_types.specs.Conditions.{Condition, Represents}
use Rattle.dep_types.specs.declared.config.Config.{Config}
use Rattle.dep_message.specs.Places.{Reading}
use Rattle.dep_hub.specs.Numbers.{Ascends}
use Rattle.dep_hub.specs.Representing.{intake_of}
use Rattle.dep_hub.specs.Holding.{IsHeldAs}
use Rattle.dep_hub.specs.Owed.{IsOwed, later_than}
use Rattle.dep_hub.specs.Claims.{any_waits_to_take, has_to_wait, is_any_pending, is_any_waiting, is_awaited_by, is_content, is_in_the_way, is_pending, is_waiting, sends_of, waits_to_take}
use Rattle.dep_hub.specs.RepresentsOwing.{behind_at, is_looked_at, is_unsent, KeptBack, unsent, prepares_still, begins_to_prepare, waits_still, begins_to_wait, lacks_memory, AnswersAtOnce, AwaitsContent, AwaitsTaker, ContentsStay, WaitingRepresents}
use Rattle.dep_hub.specs.Preparing.{is_preparing, most_steps}
use Rattle.dep_hub.specs.declared.claim.Claim.{Claim}
use Rattle.dep_hub.specs.declared.claim.Claim.TheVariants.{Takes, Reads, Neither}
use Rattle.dep_hub.specs.declared.claim.Files.{Files}
use Rattle.dep_hub.specs.declared.connections.Connection.{Connection}
use Rattle.dep_hub.specs.declared.hub.Hub.{Hub}
use Rattle.dep_exchange.specs.declared.rest.Rest.{Rest}
use Rattle.dep_hub.specs.declared.rest.Behind.{Behind}
use Rattle.dep_hub.specs.declared.rest.Behind.TheVariants.{Nothing, Content, Broken, Waits, Prepares, Prepared}
use Rattle.dep_hub.proofs.BehindLemmas.{either_false, or_parts}

-- ---- what is so with some connection, where one changes

or_true : (b : Bool) → (b || true) ≡ true
or_true true = refl
or_true false = refl

module _ (f : Behind → Bool) where
  abbrev pub any_is : List Connection → Bool
  any_is cs = list_any (λ (c : Connection). f c.behind) cs

  pub any_push : (cs : List Connection) (d : Connection) → f d.behind ≡ false → any_is (cs ++ d ∷ []) ≡ any_is cs
  any_push [] d e = ap (λ (b : Bool). b || false) e
  any_push (c ∷ cs) d e = ap (λ (b : Bool). f c.behind || b) (any_push cs d e)

  pub any_set : (i : ℕ) (cs : List Connection) (c d : Connection) → c ≡ get_or cs i c → f d.behind ≡ f c.behind → any_is (set cs i d) ≡ any_is cs
  any_set i [] c d item e = refl
  any_set zero (x ∷ cs) c d item e = ap (λ (b : Bool). b || any_is cs) (e ∙ ap (λ (y : Connection). f y.behind) item)
  any_set (suc i) (x ∷ cs) c d item e = ap (λ (b : Bool). f x.behind || b) (any_set i cs c d item e)

  pub any_here : (i : ℕ) (cs : List Connection) (d : Connection) → i < length cs → f d.behind ≡ true → any_is (set cs i d) ≡ true
  any_here i [] d l e = absurd (omega (arith, l))
  any_here zero (x ∷ cs) d l e = ap (λ (b : Bool). b || any_is cs) e
  any_here (suc i) (x ∷ cs) d l e = ap (λ (b : Bool). f x.behind || b) (any_here i cs d (omega (arith, l)) e) ∙ or_true (f x.behind)

  pub any_unset : (i : ℕ) (cs : List Connection) (d : Connection) → f d.behind ≡ false → any_is cs ≡ false → any_is (set cs i d) ≡ false
  any_unset i [] d e none = refl
  any_unset zero (x ∷ cs) d e none =
      let p = or_parts (f x.behind) (any_is cs) none in
      either_false (f d.behind) (any_is cs) e p.1
  any_unset (suc i) (x ∷ cs) d e none =
      let p = or_parts (f x.behind) (any_is cs) none in
      either_false (f x.behind) (any_is (set cs i d)) p.0 (any_unset i cs d e p.1)

-- then no content is awaited
takes_none : (object file : ℕ) (b : Behind) → is_waiting b ≡ false → waits_to_take object file b ≡ false
takes_none object file (Waits claim) e = cc
takes_none object file Nothing e = refl
takes_none object file (Content r) e = refl
takes_none object file Broken e = refl
takes_none object file (Prepares left) e = refl
takes_none object file Prepared e = refl

none_takes : (object file : ℕ) (cs : List Connection) → is_any_waiting cs ≡ false → any_waits_to_take cs object file ≡ false
none_takes object file [] e = refl
none_takes object file (c ∷ cs) e =
    let p = or_parts (is_waiting c.behind) (is_any_waiting cs) e in
    either_false (waits_to_take object file c.behind) (any_waits_to_take cs object file) (takes_none object file c.behind p.0) (none_takes object file cs p.1)

pub none_awaited : (cs : List Connection) (b : Behind) → is_any_waiting cs ≡ false → is_awaited_by cs b ≡ false
none_awaited cs (Content r) e = none_takes r.file.object r.file.file cs e
none_awaited cs Nothing e = refl
none_awaited cs Broken e = refl
none_awaited cs (Waits claim) e = refl
none_awaited cs (Prepares left) e = refl
none_awaited cs Prepared e = refl

-- ---- what holds of some connection holds of one that is found by its number, and the other way round

pub true_false : true ≡ false → ⊥
true_false e = cc e

found_in : (f : Behind → Bool) (low high : ℕ) (c : Connection) (cs : List Connection) (b : Bool) → Ascends low (c ∷ cs) high → f c.behind ≡ b
    → (b || list_any (λ (x : Connection). f x.behind) cs) ≡ true
    → (list_any (λ (x : Connection). f x.behind) cs ≡ true → (m : ℕ) × (c.number + 1 ≤ m) × (f (behind_at cs m) ≡ true))
    → (m : ℕ) × (low ≤ m) × (f (behind_at (c ∷ cs) m) ≡ true)
found_in f low high c cs true a is e k =
    (c.number, a.0, ap (λ (t : Bool). f (if t then c.behind else behind_at cs c.number)) (eq-eqb c.number c.number refl) ∙ is)
found_in f low high c cs false a is e k =
    let x = k e in
    let other : (c.number == x.0) ≡ false = grind (arith, nat_tests, x.1) in
    let above : low ≤ x.0 = omega (arith, a.0, x.1) in
    (x.0, above, ap (λ (t : Bool). f (if t then c.behind else behind_at cs x.0)) other ∙ x.2)

pub found_at : (f : Behind → Bool) (low high : ℕ) (cs : List Connection) → Ascends low cs high → list_any (λ (c : Connection). f c.behind) cs ≡ true
    → (m : ℕ) × (low ≤ m) × (f (behind_at cs m) ≡ true)
found_at f low high [] a e = absurd (true_false (sym e))
found_at f low high (c ∷ cs) a e = found_in f low high c cs (f c.behind) a refl e (found_at f (c.number + 1) high cs a.1)

any_or : (f : Behind → Bool) (b : Behind) (t u : Bool) (c : Behind) → f (if t then c else b) ≡ true → (f b ≡ true → u ≡ true) → (f c || u) ≡ true
any_or f b true u c e k = ap (λ (x : Bool). x || u) e
any_or f b false u c e k = ap (λ (x : Bool). f c || x) (k e) ∙ or_true (f c)

pub any_at : (f : Behind → Bool) (cs : List Connection) (m : ℕ) → f Nothing ≡ false → f (behind_at cs m) ≡ true → list_any (λ (c : Connection). f c.behind) cs ≡ true
any_at f [] m none e = absurd (true_false (sym e ∙ none))
any_at f (c ∷ cs) m none e =
    any_or f (behind_at cs m) (c.number == m) (list_any (λ (x : Connection). f x.behind) cs) c.behind e (any_at f cs m none)

if_idle : (t : Bool) (a b : Behind) → is_pending a ≡ false → is_pending b ≡ false → is_pending (if t then a else b) ≡ false
if_idle true a b e f = e
if_idle false a b e f = f

pending_at : (cs : List Connection) (m : ℕ) → is_any_pending cs ≡ false → is_pending (behind_at cs m) ≡ false
pending_at [] m e = refl
pending_at (c ∷ cs) m e =
    let p = or_parts (is_pending c.behind) (is_any_pending cs) e in
    if_idle (c.number == m) c.behind (behind_at cs m) p.0 (pending_at cs m p.1)

-- ---- where nothing is pending no request has to wait

idle_way : (claim : Claim) (b : Behind) → is_pending b ≡ false → is_in_the_way claim b ≡ false
idle_way (Takes files) (Content r) e = cc
idle_way (Takes files) b e = refl
idle_way (Reads n f) (Waits claim) e = cc
idle_way (Reads n f) b e = refl
idle_way Neither b e = refl

pub idle_waits : (cs : List Connection) (claim : Claim) → is_any_pending cs ≡ false → has_to_wait cs claim ≡ false
idle_waits [] claim e = refl
idle_waits (c ∷ cs) claim e =
    let p = or_parts (is_pending c.behind) (is_any_pending cs) e in
    either_false (is_in_the_way claim c.behind) (has_to_wait cs claim) (idle_way claim c.behind p.0) (idle_waits cs claim p.1)

-- the next request waits, by its claim or not at all
pub not_broken : (r : Option Rest) → later_than r ≡ Broken → ⊥
not_broken None e = let bad : Nothing ≡ Broken = e in cc
not_broken (Some r) e = let bad : Content r ≡ Broken = e in cc

pub not_looked : (r : Option Rest) → is_looked_at (later_than r) ≡ false
not_looked None = refl
not_looked (Some r) = refl

pub not_waiting : (r : Option Rest) → is_waiting (later_than r) ≡ false
not_waiting None = refl
not_waiting (Some r) = refl

-- ---- what is kept back

owed_as : (s : State) (was now : Behind) (owed : List ℕ) → now ≡ was → IsOwed s was owed → IsOwed s now owed
owed_as s was now owed e h = subst (λ (b : Behind). IsOwed s b owed) (sym e) h

-- nothing is owed behind what was sent
sent_all : (s : State) (b : Behind) (owed : List ℕ) → is_unsent b ≡ false → IsOwed s b owed → owed ≡ []
sent_all s Nothing owed e h = h
sent_all s (Waits claim) owed e h = h
sent_all s (Prepares left) owed e h = h
sent_all s Prepared owed e h = h
sent_all s (Content r) owed e h = cc
sent_all s Broken owed e h = cc

owed_waiting : (s : State) (cs : List Connection) (reading : Reading) (was now : Behind) (owed : List ℕ) → KeptBack cs reading was now → IsOwed s was owed → IsOwed s now owed
owed_waiting s cs reading was now owed (unsent u e) h = owed_as s was now owed e h
owed_waiting s cs reading was now owed (waits_still claim w e t) h = owed_as s was now owed (e ∙ sym w) h
owed_waiting s cs reading was now owed (begins_to_wait claim u c e t) h = owed_as s (Waits claim) now owed e (sent_all s was owed u.0 h)
owed_waiting s cs reading was now owed (lacks_memory u p f e) h = owed_as s Prepared now owed e (sent_all s was owed u.0 h)
owed_waiting s cs reading was now owed (prepares_still p e) h = owed_as s was now owed e h
owed_waiting s cs reading was now owed (begins_to_prepare w n e) h = owed_as s (Prepares most_steps) now owed e (owed_as s was Nothing owed (sym w) h)

not_unsent : (b : Behind) → is_unsent b ≡ false → is_content b ≡ false
not_unsent Nothing e = refl
not_unsent (Waits claim) e = refl
not_unsent (Prepares left) e = refl
not_unsent Prepared e = refl
not_unsent (Content r) e = cc
not_unsent Broken e = cc

content_as : (cs : List Connection) (reading : Reading) (was now : Behind) → KeptBack cs reading was now → is_content now ≡ is_content was
content_as cs reading was now (unsent u e) = ap is_content e
content_as cs reading was now (waits_still claim w e t) = ap is_content (e ∙ sym w)
content_as cs reading was now (begins_to_wait claim u c e t) = ap is_content e ∙ sym (not_unsent was u.0)
content_as cs reading was now (lacks_memory u p f e) = ap is_content e ∙ sym (not_unsent was u.0)
content_as cs reading was now (prepares_still p e) = ap is_content e
content_as cs reading was now (begins_to_prepare w n e) = ap is_content e ∙ sym (ap is_content w)

-- what waits has to, and all of its last reply was sent
waits_unsent : (claim : Claim) (b : Behind) → is_unsent b ≡ true → b ≡ Waits claim → ⊥
waits_unsent claim (Waits other) u e = cc
waits_unsent claim (Content r) u e = cc e
waits_unsent claim Broken u e = cc e
waits_unsent claim Nothing u e = cc e
waits_unsent claim (Prepares left) u e = cc e
waits_unsent claim Prepared u e = cc e

one_claim : (b : Behind) (claim other : Claim) → b ≡ Waits claim → b ≡ Waits other → other ≡ claim
one_claim b claim other e f = let same : Waits other ≡ Waits claim = sym f ∙ e in cc

waits_prepared : (claim : Claim) → Prepared ≡ Waits claim → ⊥
waits_prepared claim e = cc e

waits_preparing : (claim : Claim) (b : Behind) → is_preparing b ≡ true → b ≡ Waits claim → ⊥
waits_preparing claim b p e = true_false (sym p ∙ ap is_preparing e)

has_waited : (cs : List Connection) (reading : Reading) (was now : Behind) (claim : Claim) → KeptBack cs reading was now → now ≡ Waits claim
    → (has_to_wait cs claim ≡ true) × (is_content was ≡ false)
has_waited cs reading was now claim (unsent u e) is = absurd (waits_unsent claim was u (sym e ∙ is))
has_waited cs reading was now claim (waits_still other w e t) is =
    (subst (λ (x : Claim). has_to_wait cs x ≡ true) (one_claim now claim other is e) t, ap is_content w)
has_waited cs reading was now claim (begins_to_wait other u c e t) is =
    (subst (λ (x : Claim). has_to_wait cs x ≡ true) (one_claim now claim other is e) t, not_unsent was u.0)
has_waited cs reading was now claim (lacks_memory u p f e) is = absurd (waits_prepared claim (sym e ∙ is))
has_waited cs reading was now claim (prepares_still p e) is = absurd (waits_preparing claim was p (sym e ∙ is))
has_waited cs reading was now claim (begins_to_prepare w n e) is = absurd (waits_preparing claim (Prepares most_steps) refl (sym e ∙ is))

-- a content that is waited for is awaited
awaited_by : (files : Files) (b : Behind) (cs : List Connection) (n : ℕ) → sends_of files b ≡ true → behind_at cs n ≡ Waits (Takes files) → is_awaited_by cs b ≡ true
awaited_by files (Content r) cs n e waits =
    any_at (waits_to_take r.file.object r.file.file) cs n refl (ap (waits_to_take r.file.object r.file.file) waits ∙ e)
awaited_by files Nothing cs n e waits = cc
awaited_by files Broken cs n e waits = cc
awaited_by files (Waits claim) cs n e waits = cc
awaited_by files (Prepares left) cs n e waits = cc
awaited_by files Prepared cs n e waits = cc

-- a content of some files is one
pub sends_content : (files : Files) (b : Behind) → sends_of files b ≡ true → is_content b ≡ true
sends_content files (Content r) e = refl
sends_content files Nothing e = cc
sends_content files Broken e = cc
sends_content files (Waits claim) e = cc
sends_content files (Prepares left) e = cc
sends_content files Prepared e = cc

stays : {P : Type 0} (t : Bool) → (t ≡ true → P) → (t ≡ false → P) → P
stays true f g = f refl
stays false f g = g refl

-- why one is kept back while nothing is pending
abbrev KeptIdle : (was now : Behind) → Type 0
KeptIdle was now = (was ≡ Broken) ⊎ ((is_preparing now ≡ true) ⊎ ((was ≡ Nothing) × (now ≡ Prepared)))

unsent_idle : (b : Behind) → is_unsent b ≡ true → is_pending b ≡ false → b ≡ Broken
unsent_idle Broken u e = refl
unsent_idle (Content r) u e = cc
unsent_idle (Waits claim) u e = cc
unsent_idle Nothing u e = cc
unsent_idle (Prepares left) u e = cc
unsent_idle Prepared u e = cc

kept_idle : (cs : List Connection) (reading : Reading) (was now : Behind) → KeptBack cs reading was now → is_any_pending cs ≡ false → is_pending was ≡ false → KeptIdle was now
kept_idle cs reading was now (unsent u f) none e = inl (unsent_idle was u e)
kept_idle cs reading was now (waits_still claim w f t) none e = absurd (true_false (sym t ∙ idle_waits cs claim none))
kept_idle cs reading was now (begins_to_wait claim u c f t) none e = absurd (true_false (sym t ∙ idle_waits cs claim none))
kept_idle cs reading was now (lacks_memory u (inl first) f g) none e = inr (inr (first, g))
kept_idle cs reading was now (lacks_memory u (inr any) f g) none e = absurd (true_false (sym any ∙ none))
kept_idle cs reading was now (prepares_still p f) none e = inr (inl (ap is_preparing f ∙ p))
kept_idle cs reading was now (begins_to_prepare w n f) none e = inr (inl (ap is_preparing f))

module _ {A : Type 0} (condition : A → Condition) (old new : Hub A) where
  pub contents_stay : ContentsStay condition old new
  contents_stay taken takes failures failures_after n k m =
      stays (m == n) (λ e. subst (λ (x : ℕ). is_content (behind_at new.connections.items x) ≡ is_content (behind_at old.connections.items x)) (sym (eqb-true m n e))
      (content_as old.connections.items k.reading (behind_at old.connections.items n) (behind_at new.connections.items n) k.why))
      (λ e. let other : m ≢ n = grind (arith, nat_tests, e) in ap is_content (k.others m other))

  pub awaits_content : AwaitsContent condition old new
  awaits_content taken takes failures failures_after n k files is =
      let w = has_waited old.connections.items k.reading (behind_at old.connections.items n) (behind_at new.connections.items n) (Takes files) k.why is in
      let x = found_at (sends_of files) 0 old.next old.connections.items old.ascends w.0 in
      let other : x.0 ≢ n = λ e. true_false (sym (sends_content files (behind_at old.connections.items x.0) x.2)
      ∙ (ap (λ (m : ℕ). is_content (behind_at old.connections.items m)) e ∙ w.1)) in (
        x.0,
        ap (is_awaited_by new.connections.items) (k.others x.0 other) ∙ awaited_by files (behind_at old.connections.items x.0) new.connections.items n x.2 is,
      )

  pub awaits_taker : AwaitsTaker condition old new
  awaits_taker taken takes failures failures_after n k object file is =
      let w = has_waited old.connections.items k.reading (behind_at old.connections.items n) (behind_at new.connections.items n) (Reads object file) k.why is in
      let x = found_at (waits_to_take object file) 0 old.next old.connections.items old.ascends w.0 in
      (x.0, x.2)

  pub answers_at_once : AnswersAtOnce condition old new
  answers_at_once taken takes failures failures_after n k none =
      kept_idle old.connections.items k.reading (behind_at old.connections.items n) (behind_at new.connections.items n) k.why none (pending_at old.connections.items n none)

  pub waiting_represents : WaitingRepresents condition old new
  waiting_represents taken takes failures failures_after n k w held owed at = record {
    at = record {
      state = subst (λ (x : A). Represents (condition x) w.state) (sym k.same_store) at.at.state;
      kept = λ m. subst (λ (x : Config). IsHeldAs x.max_upload (w.line m) (held m) (intake_of new.connections.items m)) (sym k.same_config)
          (subst (λ (o : Option Reading). IsHeldAs old.config.max_upload (w.line m) (held m) o) (sym (k.intakes m)) (at.at.kept m));
    };
    owes = λ m. stays (m == n)
        (λ e. subst (λ (x : ℕ). IsOwed w.state (behind_at new.connections.items x) (owed x)) (sym (eqb-true m n e))
        (owed_waiting w.state old.connections.items k.reading (behind_at old.connections.items n) (behind_at new.connections.items n) (owed n) k.why (at.owes n)))
        (λ e.
        let other : m ≢ n = grind (arith, nat_tests, e) in
        owed_as w.state (behind_at old.connections.items m) (behind_at new.connections.items m) (owed m) (k.others m other) (at.owes m));
  }
