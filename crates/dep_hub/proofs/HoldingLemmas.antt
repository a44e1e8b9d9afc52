-- What a hub represents that holds bytes which have not arrived, after each of its calls.
use Rattle.std.proofs.Common.{◌≡◌, ◌≢◌, ℕ, ◌==◌, ◌≤◌, Bool, true, false, List, [], ◌∷◌, ◌++◌, Vec, Global, set, get_or, Option, Some, None, if◌then◌else◌, refl, sym, ap, subst, ◌∙◌, arith}
use Rattle.std.proofs.lemmas.Bool.{eqb-true}
use Rattle.dep_types.specs.State.{State}
use Rattle.dep_types.specs.declared.config.Config.{Config}
use Rattle.dep_types.specs.Conditions.{Condition, Represents, Leaves}
use Rattle.dep_message.specs.Places.{Open, Reading, shut_reading, place_with}
use Rattle.dep_exchange.specs.Machine.{out_of_memory}
use Rattle.dep_exchange.specs.Records.{Connect, Close, Arrive, Record, stopped, first_world, connects, closes, arrives, Run, goes_on, stops, Line, Absent, Live, World, with_line}
use Rattle.dep_exchange.specs.Sending.{Outside, outside}
use Rattle.dep_exchange.specs.Serving.{IsDeadIfShut}
use Rattle.dep_exchange.specs.Nexts.{RunsOut, AnswersNext, arrived_after}
use Rattle.dep_hub.specs.Representing.{intake_of, IsKeptAs, RepresentsAt, store_of, IsClean}
use Rattle.dep_exchange.specs.Archives.{KeepsAll}
use Rattle.dep_hub.specs.Holding.{RestsOn, RepresentsOn, with_held, fed, IsHeldAs, ArrivalOutcome, IsNext, IsRefused, KeepsHolding, RepresentsHolding, RepresentsHoldingAfter, LineTransition, PartArrives, AnswersOver, ComesToNext, OffersTo}
use Rattle.dep_hub.specs.Numbers.{place_of_number, Ascends}
use Rattle.dep_exchange.specs.declared.arrived.Arrived.{Arrived}
use Rattle.dep_exchange.specs.declared.arrived.Arrived.TheVariants as came
use Rattle.dep_exchange.specs.declared.next.Next.{Next}
use Rattle.dep_exchange.specs.declared.next.Next.TheVariants.{More, Waiting, Closed, Cut, NoSuch}
use Rattle.dep_hub.specs.declared.connections.Connection.{Connection}
use Rattle.dep_hub.specs.declared.rest.Behind.{Behind}
use Rattle.dep_hub.specs.declared.rest.Behind.TheVariants.{Nothing}
use Rattle.dep_hub.specs.declared.hub.Hub.{Hub}
use Rattle.dep_exchange.proofs.Leaving.{Settles, stays_as, leaves_wider, leaves_before}
use Rattle.dep_hub.proofs.ConnectionLemmas.{index_some, intake_set, intake_push, absent_above}
use Rattle.dep_hub.proofs.HubLemmas.{kept_fresh, stopped_run}
use Rattle.dep_exchange.proofs.ShutLemmas.{ends_sent}
use Rattle.dep_hub.proofs.HeldLemmas.{Keeps, NextOver}
use Rattle.dep_hub.proofs.PartLemmas.{over_next, over_out}
use Rattle.dep_hub.proofs.Endings.{place_nothing, place_twice}

-- ---- lines, and what is held of them

held_if : (limit : ℕ) (b : Bool) (line line' : Line) (h h' : List ℕ) (o o' : Option Reading) → IsHeldAs limit line h o → IsHeldAs limit line' h' o'
    → IsHeldAs limit (if b then line else line') (if b then h else h') (if b then o else o')
held_if limit true line line' h h' o o' k k' = k
held_if limit false line line' h h' o o' k k' = k'

-- connections keep each of these lines, and hold these bytes
abbrev pub Hold : (limit : ℕ) → List Connection → (ℕ → Line) → (ℕ → List ℕ) → Type 0
Hold limit cs lines held = (m : ℕ) → IsHeldAs limit (lines m) (held m) (intake_of cs m)

-- one connection becomes another, and the others stay
held_put : (limit n : ℕ) (line : Line) (lines : ℕ → Line) (bytes : List ℕ) (held : ℕ → List ℕ) (o : Option Reading) (old new : List Connection)
    → IsHeldAs limit line bytes o → Hold limit old lines held
    → ((m : ℕ) → intake_of new m ≡ (if m == n then o else intake_of old m))
    → Hold limit new (with_line n line lines) (with_held n bytes held)
held_put limit n line lines bytes held o old new k ks e m =
    subst (λ x. IsHeldAs limit (with_line n line lines m) (with_held n bytes held m) x) (sym (e m))
    (held_if limit (m == n) line (lines m) bytes (held m) o (intake_of old m) k (ks m))

-- no line changes
bytes_if : (limit : ℕ) (b : Bool) (line : Line) (h h' : List ℕ) (o o' : Option Reading) → (b ≡ true → IsHeldAs limit line h o) → IsHeldAs limit line h' o'
    → IsHeldAs limit line (if b then h else h') (if b then o else o')
bytes_if limit true line h h' o o' k k' = k refl
bytes_if limit false line h h' o o' k k' = k'

-- nothing more is held
line_if : (limit : ℕ) (b : Bool) (line line' : Line) (h : List ℕ) (o o' : Option Reading) → (b ≡ true → IsHeldAs limit line h o) → IsHeldAs limit line' h o'
    → IsHeldAs limit (if b then line else line') h (if b then o else o')
line_if limit true line line' h o o' k k' = k refl
line_if limit false line line' h o o' k k' = k'

-- a connection that is not there holds nothing
none_held : (limit : ℕ) (line : Line) (h : List ℕ) (o : Option Reading) → o ≡ None → IsHeldAs limit line h o → h ≡ []
none_held limit line h o e k = (subst (λ x. IsHeldAs limit line h x) e k).1

reflexive : (n : ℕ) → n ≤ n
reflexive n = omega arith

fresh : (limit : ℕ) → Reading
fresh limit = record { limit = limit; place = Open false []; is_dead = false }

fresh_held : (limit : ℕ) (h : List ℕ) → h ≡ [] → IsHeldAs limit (Live []) h (Some (fresh limit))
unfolding fresh
fresh_held limit h e = subst (λ x. IsHeldAs limit (Live []) x (Some (fresh limit))) (sym e) (fresh limit, kept_fresh limit, refl)

-- bytes more are held
held_more : (limit : ℕ) (line : Line) (held piece : List ℕ) (before now : Reading) → now ≡ fed before piece → IsHeldAs limit line held (Some before)
    → IsHeldAs limit line (held ++ piece) (Some now)
held_more limit line held piece before now e k =
    (k.0, k.1, e ∙ (ap (λ (r : Reading). fed r piece) k.2 ∙ (λ i. record { limit = k.0.limit; place = place_twice k.0.place held piece i; is_dead = k.0.is_dead })))

keeps : (limit : ℕ) (line : Line) (held : List ℕ) (reading : Reading) → IsHeldAs limit line held (Some reading) → Keeps limit line held reading
keeps limit line held reading k = record { head_only = k.0; keeps = k.1; is_fed = k.2 }

-- ---- the connection of a call

module _ (limit n i : ℕ) (old : List Connection) (c : Connection) (now : Reading) (b : Behind) (index : place_of_number n old ≡ Some i) (item : c ≡ get_or old i c) where
  intakes : (m : ℕ) → intake_of (set old i (record { number = c.number; intake = now; behind = b })) m ≡ (if m == n then Some now else intake_of old m)
  intakes m = intake_set n i old (record { number = c.number; intake = now; behind = b }) index (index_some n i old c index item).0 m

  -- what it held
  held_here : (lines : ℕ → Line) (held : ℕ → List ℕ) → Hold limit old lines held → IsHeldAs limit (lines n) (held n) (Some c.intake)
  held_here lines held kept = subst (λ o. IsHeldAs limit (lines n) (held n) o) (index_some n i old c index item).1 (kept n)

  -- its line is another, with another rest
  held_then : (lines : ℕ → Line) (held : ℕ → List ℕ) → Hold limit old lines held → (line : Line) (rest : List ℕ) → IsHeldAs limit line rest (Some now)
      → Hold limit (set old i (record { number = c.number; intake = now; behind = b })) (with_line n line lines) (with_held n rest held)
  held_then lines held kept line rest k = held_put limit n line lines rest held (Some now) old (set old i (record { number = c.number; intake = now; behind = b })) k kept intakes

  -- it was fed a piece
  pub held_fed : (piece : List ℕ) → now ≡ fed c.intake piece → (lines : ℕ → Line) (held : ℕ → List ℕ) → Hold limit old lines held
      → Hold limit (set old i (record { number = c.number; intake = now; behind = b })) lines (with_held n (held n ++ piece) held)
  held_fed piece e lines held kept m =
      subst (λ o. IsHeldAs limit (lines m) (with_held n (held n ++ piece) held m) o) (sym (intakes m))
      (bytes_if limit (m == n) (lines m) (held n ++ piece) (held m) (Some now) (intake_of old m)
      (λ same. subst (λ k. IsHeldAs limit (lines k) (held n ++ piece) (Some now)) (sym (eqb-true m n same))
      (held_more limit (lines n) (held n) piece c.intake now e (held_here lines held kept)))
      (kept m))

module _ {A : Type 0} (condition : A → Condition) (old new : Hub A) (n i : ℕ) (c : Connection) (now : Reading) (b : Behind)
    (index : place_of_number n old.connections.items ≡ Some i) (item : c ≡ get_or old.connections.items i c)
    (config : new.config ≡ old.config)
    (changed : new.connections.items ≡ set old.connections.items i (record { number = c.number; intake = now; behind = b })) where
  here : (lines : ℕ → Line) (held : ℕ → List ℕ) → KeepsHolding condition old lines held → IsHeldAs old.config.max_upload (lines n) (held n) (Some c.intake)
  here lines held kept = held_here old.config.max_upload n i old.connections.items c now b index item lines held kept

  put_here : (lines : ℕ → Line) (held : ℕ → List ℕ) → KeepsHolding condition old lines held → (line : Line) (rest : List ℕ) → IsHeldAs old.config.max_upload line rest (Some now)
      → KeepsHolding condition new (with_line n line lines) (with_held n rest held)
  put_here lines held kept line rest k =
      subst (λ (x : Config). Hold x.max_upload new.connections.items (with_line n line lines) (with_held n rest held)) (sym config)
      (subst (λ (cs : List Connection). Hold old.config.max_upload cs (with_line n line lines) (with_held n rest held)) (sym changed)
      (held_then old.config.max_upload n i old.connections.items c now b index item lines held kept line rest k))

  module _ (settles : Settles (store_of condition new)) (taken takes : Option (List ℕ)) (failures failures_after : ℕ) where
    abbrev Before : Outside
    Before = outside taken failures (store_of condition old)

    abbrev After : Outside
    After = outside takes failures_after (store_of condition new)

    answers_over : (reading : Reading) (offered : List ℕ → List ℕ) (moment : ℕ) (answer : Arrived) (outcome : ArrivalOutcome) → NextOver old.config reading now moment Before After answer outcome
        → ((limit : ℕ) (line : Line) (held : List ℕ) → IsHeldAs limit line held (Some c.intake) → IsHeldAs limit line (offered held) (Some reading))
        → AnswersOver condition taken takes failures failures_after old new n offered moment answer outcome
    answers_over reading offered moment answer outcome v offers = record {
      sent = v.sent;
      appends = v.appends;
      answers = λ honest w held at.
          let k = keeps old.config.max_upload (w.line n) (offered (held n)) reading (offers old.config.max_upload (w.line n) (held n) (here w.line held at.kept)) in
          let r = v.parts honest (w.line n) w.state (offered (held n)) k at.state in (
            record {
              part = r.part;
              rest = r.rest;
              whole = r.whole;
              left = r.left;
              line = r.becomes;
              arrives = r.arrival;
              represents = λ clean. record { state = r.represents clean; kept = put_here w.line held at.kept r.becomes r.rest r.kept };
              rests = λ clean. stays_as (store_of condition new) r.left settles (r.represents clean);
              stays_clean = r.stays_clean;
              stop = r.stop;
              cause = r.cause;
            },
            r.outcome_is,
          );
      shut = λ disk none.
          let both = v.sends disk none in
          record {
            sends = both.0;
            leaves = both.1;
            goes_on = λ lines held kept.
                let k = keeps old.config.max_upload (lines n) (offered (held n)) reading (offers old.config.max_upload (lines n) (held n) (here lines held kept)) in
                let r = v.still disk none (lines n) (offered (held n)) k in
                record {
                  part = r.part;
                  rest = r.rest;
                  whole = r.whole;
                  line = r.becomes;
                  arrives = r.arrival;
                  kept = put_here lines held kept r.becomes r.rest r.kept;
                };
          };
    }

    this : (moment : ℕ) → now.limit ≡ c.intake.limit → (IsDeadIfShut c.intake → IsDeadIfShut now) → (answer : Next)
        → AnswersNext old.config c.intake moment Before After now.place answer
        → AnswersOver condition taken takes failures failures_after old new n (λ held. held) moment (arrived_after answer) (IsNext answer)
    this moment limit dead answer g =
        answers_over c.intake (λ held. held) moment (arrived_after answer) (IsNext answer)
        (over_next old.config moment Before After c.intake now settles limit dead answer g) (λ lim line held k. k)

    -- the next item is answered
    pub comes_next : (moment : ℕ) → now.limit ≡ c.intake.limit → (IsDeadIfShut c.intake → IsDeadIfShut now) → (answer : Next)
        → AnswersNext old.config c.intake moment Before After now.place answer → ComesToNext condition taken takes failures failures_after old new n moment answer
    comes_next moment limit dead More g = this moment limit dead More g
    comes_next moment limit dead Waiting g = this moment limit dead Waiting g
    comes_next moment limit dead Closed g = this moment limit dead Closed g
    comes_next moment limit dead Cut g = this moment limit dead Cut g
    comes_next moment limit dead NoSuch g = absurd g

    refused : (piece : List ℕ) (answer : Arrived) (o : RunsOut (place_with c.intake.place piece) Before After answer) → answer ≢ came.Open → now ≡ shut_reading c.intake → (moment : ℕ)
        → AnswersOver condition taken takes failures failures_after old new n (λ held. held ++ piece) moment answer (IsRefused answer)
    refused piece answer o ends shut moment =
        answers_over (fed c.intake piece) (λ held. held ++ piece) moment answer (IsRefused answer)
        (over_out old.config moment Before After (fed c.intake piece) now settles (ap (λ (r : Reading). r.limit) shut)
        (λ _. subst IsDeadIfShut (sym shut) (λ _. refl)) answer (IsRefused answer) o (refl, refl, o.sends) ends (ap (λ (r : Reading). r.place) shut))
        (λ lim line held k. held_more lim line held piece c.intake (fed c.intake piece) refl k)

    -- memory runs out for a piece
    pub refuses : (piece : List ℕ) (answer : Arrived) → RunsOut (place_with c.intake.place piece) Before After answer → answer ≢ came.NoSuch → now ≡ shut_reading c.intake
        → OffersTo condition taken takes failures failures_after old new n piece answer
    refuses piece came.Open o there shut = absurd (ends_sent out_of_memory o.sent o.sends)
    refuses piece came.Closed o there shut = refused piece came.Closed o (λ e. cc) shut
    refuses piece came.Cut o there shut = refused piece came.Cut o (λ e. cc) shut
    refuses piece came.NoSuch o there shut = absurd (there refl)

-- ---- connections that are opened and closed

pub closes_line : (limit n : ℕ) (old new : List Connection) → ((m : ℕ) → intake_of new m ≡ (if m == n then None else intake_of old m))
    → (lines : ℕ → Line) (held : ℕ → List ℕ) → Hold limit old lines held → Hold limit new (with_line n Absent lines) (with_held n [] held)
closes_line limit n old new gone lines held kept = held_put limit n Absent lines [] held None old new (tt, refl) kept gone

pub connects_line : (limit n next : ℕ) (old new : List Connection) → Ascends 0 old next → n ≡ next
    → new ≡ old ++ record { number = n; intake = record { limit = limit; place = Open false []; is_dead = false }; behind = Nothing } ∷ []
    → (lines : ℕ → Line) (held : ℕ → List ℕ) → Hold limit old lines held → Hold limit new (with_line n (Live []) lines) held
unfolding fresh
connects_line limit n next old new ascends this items lines held kept m =
    let d : Connection = record { number = n; intake = fresh limit; behind = Nothing } in
    let low : Ascends 0 old n = subst (λ k. Ascends 0 old k) (sym this) ascends in
    let none : intake_of old n ≡ None = absent_above 0 n n old low (reflexive n) in
    let empty : held n ≡ [] = none_held limit (lines n) (held n) (intake_of old n) none (kept n) in
    subst (λ o. IsHeldAs limit (with_line n (Live []) lines m) (held m) o) (sym (ap (λ cs. intake_of cs m) items ∙ intake_push 0 old d low m))
    (line_if limit (m == n) (Live []) (lines m) (held m) (Some d.intake) (intake_of old m)
    (λ e. fresh_held limit (held m) (ap held (eqb-true m n e) ∙ empty)) (kept m))

pub holds_same : (limit : ℕ) (old new : List Connection) → new ≡ old → (lines : ℕ → Line) (held : ℕ → List ℕ) → Hold limit old lines held → Hold limit new lines held
holds_same limit old new items lines held kept = subst (λ (cs : List Connection). Hold limit cs lines held) (sym items) kept

-- ---- the records of a hub's calls

-- a hub at which nothing is held stands as one that holds nothing, and the other way round
module _ {A : Type 0} (condition : A → Condition) (hub : Hub A) (w : World) where
  hold_one : (limit : ℕ) (line : Line) (o : Option Reading) → IsKeptAs limit line o → IsHeldAs limit line [] o
  hold_one limit line None k = (k, refl)
  hold_one limit line (Some r) k = (r, k, λ i. record { limit = r.limit; place = sym (place_nothing r.place) i; is_dead = r.is_dead })

  keep_one : (limit : ℕ) (line : Line) (h : List ℕ) (o : Option Reading) → h ≡ [] → IsHeldAs limit line h o → IsKeptAs limit line o
  keep_one limit line h None e k = k.0
  keep_one limit line h (Some r) e k =
      let same : r ≡ k.0 = k.2 ∙ (ap (λ x. fed k.0 x) e ∙ (λ i. record { limit = k.0.limit; place = place_nothing k.0.place i; is_dead = k.0.is_dead })) in
      subst (λ x. IsKeptAs limit line (Some x)) (sym same) k.1

  pub holds_nothing : RepresentsAt condition hub w → RepresentsHolding condition hub w (λ n. [])
  holds_nothing at = record { state = at.state; kept = λ n. hold_one hub.config.max_upload (w.line n) (intake_of hub.connections.items n) (at.kept n) }

  pub represents_at : (held : ℕ → List ℕ) → ((n : ℕ) → held n ≡ []) → RepresentsHolding condition hub w held → RepresentsAt condition hub w
  represents_at held e at = record {
    state = at.state;
    kept = λ n. keep_one hub.config.max_upload (w.line n) (held n) (intake_of hub.connections.items n) (e n) (at.kept n);
  }

-- a record is added to those of a run, and where the arrival was the last thing, what a stop leaves
-- represents the records with a stop
module _ {A : Type 0} (condition : A → Condition) (old new : Hub A) (n : ℕ) (offered : List ℕ) (moment : ℕ) (sent : List ℕ)
    (failures failures_after : ℕ) (answer : Arrived) (first : State) (records : List Record) (held : ℕ → List ℕ) (h : RepresentsHoldingAfter condition old first records held)
    (a : PartArrives condition old.config new n offered moment sent failures failures_after answer h.world held) where
  pub answer_adds : new.config ≡ old.config → IsClean condition new
      → RepresentsHoldingAfter condition new first (records ++ record { event = Arrive n a.part moment; sent = sent } ∷ []) (with_held n a.rest held)
  answer_adds config clean = record {
    world = record { state = a.left; line = with_line n a.line h.world.line };
    run = subst (λ (x : Config). Run x first (records ++ record { event = Arrive n a.part moment; sent = sent } ∷ []) (record { state = a.left; line = with_line n a.line h.world.line })) (sym config)
        (goes_on h.run (arrives a.arrives));
    at = a.represents clean;
  }

  pub answer_stops : Leaves (store_of condition new)
      (λ found. Run old.config first (records ++ record { event = Arrive n a.part moment; sent = sent } ∷ stopped ∷ []) (first_world found))
  answer_stops = leaves_wider (store_of condition new) _ _ (λ found l. stopped_run old.config h.run n a.arrives found l) a.stop

module _ {A : Type 0} (condition : A → Condition) (old new : Hub A) (n : ℕ) (first : State) (records : List Record) (held : ℕ → List ℕ)
    (h : RepresentsHoldingAfter condition old first records held) (config : new.config ≡ old.config) (store : new.store ≡ old.store) where
  same_state : Represents (store_of condition new) h.world.state
  same_state = subst (λ (x : A). Represents (condition x) h.world.state) (sym store) h.at.state

  pub connect_adds : LineTransition condition old new n (Live []) (λ bytes. bytes)
      → RepresentsHoldingAfter condition new first (records ++ record { event = Connect n; sent = [] } ∷ []) held
  connect_adds moves =
      let w : World = record { state = h.world.state; line = with_line n (Live []) h.world.line } in
      record {
        world = w;
        run = subst (λ (x : Config). Run x first (records ++ record { event = Connect n; sent = [] } ∷ []) w) (sym config) (goes_on h.run connects);
        at = record { state = same_state; kept = moves h.world.line held h.at.kept };
      }

  pub close_adds : LineTransition condition old new n Absent (with_held n [])
      → RepresentsHoldingAfter condition new first (records ++ record { event = Close n; sent = [] } ∷ []) (with_held n [] held)
  close_adds moves =
      let w : World = record { state = h.world.state; line = with_line n Absent h.world.line } in
      record {
        world = w;
        run = subst (λ (x : Config). Run x first (records ++ record { event = Close n; sent = [] } ∷ []) w) (sym config) (goes_on h.run closes);
        at = record { state = same_state; kept = moves h.world.line held h.at.kept };
      }

-- a stop at rest
pub rests_holding : {A : Type 0} (condition : A → Condition) (hub : Hub A) → Settles (store_of condition hub) → (first : State) (records : List Record) (held : ℕ → List ℕ)
    → RepresentsHoldingAfter condition hub first records held → Leaves (store_of condition hub) (λ found. Run hub.config first (records ++ stopped ∷ []) (first_world found))
rests_holding condition hub settles first records held h =
    leaves_wider (store_of condition hub) _ _ (λ found e. subst (λ s. Run hub.config first (records ++ stopped ∷ []) (first_world s)) (sym e) (stops h.run))
    (stays_as (store_of condition hub) h.world.state settles h.at.state)

-- between two calls, where the store keeps what it kept
module _ {A : Type 0} (condition : A → Condition) (old new : Hub A) (config : new.config ≡ old.config) (connections : new.connections ≡ old.connections) (next : new.next ≡ old.next) where
  represents_still : (IsClean condition new → (s : State) → Represents (store_of condition old) s → Represents (store_of condition new) s) → RepresentsOn condition old new
  represents_still kept clean first records held h = record {
    world = h.world;
    run = subst (λ (x : Config). Run x first records h.world) (sym config) h.run;
    at = record {
      state = kept clean h.world.state h.at.state;
      kept = subst (λ (x : Config). (number : ℕ) → IsHeldAs x.max_upload (h.world.line number) (held number) (intake_of new.connections.items number)) (sym config)
          (subst (λ (cs : Vec Connection Global). (number : ℕ) → IsHeldAs old.config.max_upload (h.world.line number) (held number) (intake_of cs.items number)) (sym connections) h.at.kept);
    };
  }

  -- it was asked for nothing that it keeps
  pub rests_on : Settles (store_of condition old) → KeepsAll (store_of condition old) (store_of condition new) → RestsOn condition KeepsAll old new
  rests_on settles store = record {
    represents = represents_still store.kept;
    stops = λ honest first records held h. leaves_before (store_of condition old) (store_of condition new) _ (store.left honest)
        (rests_holding condition old settles first records held h);
    store = store;
    config = config;
    connections = connections;
    next = next;
  }
