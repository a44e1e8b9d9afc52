-- What a hub represents, after each of its calls.
use Rattle.std.proofs.Common.{◌≡◌, ◌≢◌, ◌⊎◌, ℕ, ◌==◌, Bool, true, false, List, [], ◌∷◌, ◌++◌, length, get_or, set, Option, Some, None, if◌then◌else◌, IsTrue, refl, sym, ap, subst, ◌∙◌, append_assoc, arith, inl, inr}
use Rattle.std.specs.Prelude.{IsSome}
use Rattle.std.specs.Coded.{Coded-set, coded_ℕ}
use Rattle.std.specs.Vec.{with_item}
use Rattle.std.proofs.Math.Bool.{Bool-set}
use Rattle.std.proofs.lemmas.Bool.{eqb-true, eq-eqb}
use Rattle.dep_types.specs.State.{State, empty_state}
use Rattle.dep_types.specs.Writing.{HasRisen}
use Rattle.dep_types.specs.declared.config.Config.{Config}
use Rattle.dep_head.specs.Head.{head_end}
use Rattle.dep_message.specs.Places.{Place, Open, Shut, Reading, IsOpen, HasBytes, place_with}
use Rattle.dep_message.specs.Stream.{Item, ReadsItems, Waits}
use Rattle.dep_message.proofs.Reading.{reads_more, reads_append}
use Rattle.dep_types.specs.Conditions.{Condition, Represents, Leaves}
use Rattle.dep_exchange.specs.Machine.{Serves, serves_all, step_fails, gives_up, given_up, cut_short, answer_at_place}
use Rattle.dep_exchange.specs.Stops.{LeftByServing}
use Rattle.dep_exchange.specs.Records.{ServerEvent, Connect, Arrive, Close, Record, stopped, Line, Absent, Live, ShutLine, World, first_world, with_line, line_after, ReadsBeyond, Arrives, at_live, at_shut_line, LeftByArrival, MayShut, connects, closes, arrives, Run, goes_on, stops, breaks}
use Rattle.dep_exchange.specs.Causes.{EndsInContent, IsCutWhileStreaming}
use Rattle.dep_exchange.specs.Sending.{Outside, outside}
use Rattle.dep_exchange.specs.Serving.{IsDeadIfShut, arrival_of, ServesFrom, ServesOver}
use Rattle.dep_hub.specs.Representing.{intake_of, KeepsRest, IsKeptAs, RepresentsAt, RepresentsAfter, StopsAfter, AddsRecord, Transition, ArrivesTo, ArrivesShut, ArrivesOver, ComesTo, store_of, IsClean, IsHonest}
use Rattle.dep_exchange.specs.Shut.{IfShut}
use Rattle.dep_hub.specs.Claims.{is_any_pending, is_any_waiting}
use Rattle.dep_hub.specs.Numbers.{place_of_number, Ascends, Ascends-prop}
use Rattle.dep_exchange.specs.declared.arrived.Arrived.{Arrived}
use Rattle.dep_exchange.specs.declared.arrived.Arrived.TheVariants.{Open as StaysOpen, Closed, Cut, NoSuch}
use Rattle.dep_hub.specs.declared.connections.Connection.{Connection}
use Rattle.dep_hub.specs.declared.rest.Behind.{Behind}
use Rattle.dep_hub.specs.declared.rest.Behind.TheVariants as behind
use Rattle.dep_hub.specs.declared.hub.Hub.{Hub}
use Rattle.dep_exchange.proofs.Leaving.{Settles, stays_as, leaves_wider}
use Rattle.dep_hub.proofs.ConnectionLemmas.{index_some, intake_set, intake_push}

kept_if : (limit : ℕ) (b : Bool) (line line' : Line) (o o' : Option Reading) → IsKeptAs limit line o → IsKeptAs limit line' o'
    → IsKeptAs limit (if b then line else line') (if b then o else o')
kept_if limit true line line' o o' k k' = k
kept_if limit false line line' o o' k k' = k'

-- one connection becomes another, and the others stay
pub kept_put : (limit n : ℕ) (line : Line) (lines : ℕ → Line) (o : Option Reading) (old new : List Connection)
    → IsKeptAs limit line o → ((m : ℕ) → IsKeptAs limit (lines m) (intake_of old m))
    → ((m : ℕ) → intake_of new m ≡ (if m == n then o else intake_of old m))
    → (m : ℕ) → IsKeptAs limit (with_line n line lines m) (intake_of new m)
kept_put limit n line lines o old new k ks e m =
    subst (λ x. IsKeptAs limit (with_line n line lines m) x) (sym (e m))
    (kept_if limit (m == n) line (lines m) o (intake_of old m) k (ks m))

-- a fresh connection
pub kept_fresh : (limit : ℕ) → KeepsRest limit [] (record { limit = limit; place = Open false []; is_dead = false })
unfolding head_end
kept_fresh limit = record { items = []; same_limit = refl; spells = record { reads = refl; waits = inl (refl, omega arith) }; is_open = tt }

serves_map : {config : Config} {s left : State} {moment : ℕ} {sent : List ℕ} {at : Place} {answer : Arrived} (p q : List Item → Place → Type 0)
    → ((items : List Item) (at : Place) → p items at → q items at)
    → Serves config p s moment sent left at answer → Serves config q s moment sent left at answer
serves_map p q f (serves_all items {at} r w) = serves_all items (f items at r) w
serves_map p q f (step_fails items item at r x) = step_fails items item at (f _ at r) x
serves_map p q f (gives_up items at r b x) = gives_up items at (f items at r) b x

-- the same stop, and the same cut
left_map : {config : Config} {s left : State} {moment : ℕ} {sent : List ℕ} {at : Place} {answer : Arrived} (p q : List Item → Place → Type 0)
    (f : (items : List Item) (at : Place) → p items at → q items at) (v : Serves config p s moment sent left at answer) (found : State)
    → LeftByServing v found → LeftByServing (serves_map p q f v) found
unfolding serves_map
left_map p q f (serves_all items r w) found h = h
left_map p q f (step_fails items item at r x) found h = h
left_map p q f (gives_up items at r b x) found h = h

content_map : {config : Config} {s left : State} {moment : ℕ} {sent : List ℕ} {at : Place} {answer : Arrived} (p q : List Item → Place → Type 0)
    (f : (items : List Item) (at : Place) → p items at → q items at) (v : Serves config p s moment sent left at answer)
    → EndsInContent v → EndsInContent (serves_map p q f v)
unfolding serves_map
content_map p q f (serves_all items r w) h = h
content_map p q f (step_fails items item at r x) h = h
content_map p q f (gives_up items at r b x) h = h

-- where the connection stays open, all that is complete was read
serves_rest : {config : Config} {s left : State} {moment : ℕ} {sent : List ℕ} {at : Place} {answer : Arrived} (p : List Item → Place → Type 0)
    → Serves config p s moment sent left at answer → IsOpen at → (items : List Item) × p items at × Waits config.max_upload at
serves_rest p (serves_all items r w) o = (items, r, w)
serves_rest p (step_fails items item at r x) o = absurd o
serves_rest p (gives_up items at r b x) o = absurd o

-- what is open is not shut
pub open_shut : (at : Place) → IsOpen at → at ≡ Shut → ⊥
open_shut (Open continued rest) o e = cc
open_shut Shut o e = o

-- nothing is read behind an end
ends_read : (limit : ℕ) (items : List Item) (item : Item) (at : Place) → ReadsItems limit Shut (items ++ item ∷ []) at → ⊥
ends_read limit [] item at r = r.1
ends_read limit (x ∷ items) item at r = r.1

-- what an arrival at an ended connection does
pub data Nothing (s : State) : List ℕ → State → Place → Arrived → Type 0 where
  nothing : Nothing s [] s Shut Closed

nothing_at : (s : State) (at : Place) → at ≡ Shut → Nothing s [] s at (answer_at_place at)
nothing_at s at e = subst (λ p. Nothing s [] s p (answer_at_place p)) (sym e) nothing

serves_ended : {config : Config} {s left : State} {moment : ℕ} {sent : List ℕ} {at : Place} {answer : Arrived} (limit : ℕ)
    → Serves config (λ items at. ReadsItems limit Shut items at) s moment sent left at answer → Nothing s sent left at answer
serves_ended {s = s} limit (serves_all [] {at} r w) = nothing_at s at r
serves_ended limit (serves_all (x ∷ xs) r w) = absurd r.1
serves_ended limit (step_fails items item at r x) = absurd (ends_read limit items item at r)
serves_ended limit (gives_up [] at r b x) = absurd (subst HasBytes r b)
serves_ended limit (gives_up (x ∷ xs) at r b y) = absurd r.1

ended_left : {config : Config} {s left : State} {moment : ℕ} {sent : List ℕ} {at : Place} {answer : Arrived} (limit : ℕ)
    (v : Serves config (λ items at. ReadsItems limit Shut items at) s moment sent left at answer) (found : State) → LeftByServing v found → found ≡ s
ended_left limit (serves_all [] {at} r w) found h = h
ended_left limit (serves_all (x ∷ xs) r w) found h = absurd r.1
ended_left limit (step_fails items item at r x) found h = absurd (ends_read limit items item at r)
ended_left limit (gives_up [] at r b x) found h = absurd (subst HasBytes r b)
ended_left limit (gives_up (x ∷ xs) at r b y) found h = absurd r.1

-- what was left goes on with the piece
pub beyond : (limit : ℕ) (stream piece : List ℕ) (reading : Reading) → KeepsRest limit stream reading
    → (items : List Item) (at : Place) → ReadsItems limit (place_with reading.place piece) items at → ReadsBeyond limit stream piece items at
beyond limit stream piece reading k items at r = (
  k.items,
  reading.place,
  k.spells,
  reads_append limit k.items items (Open false (stream ++ piece)) (place_with reading.place piece) at
      (reads_more limit k.items (Open false stream) reading.place piece k.spells.reads) r,
)

-- what an arrival makes of a line
pub record NextLine (config : Config) (piece : List ℕ) (moment : ℕ) (line : Line) (s : State) (sent : List ℕ) (old new : Outside) (reading : Reading) (answer : Arrived) : Type 0 where
  pub left : State
  pub becomes : Line
  pub arrival : Arrives config piece moment line s sent left becomes answer
  pub represents : IsTrue new.store.is_open → Represents new.store left
  pub stays_clean : answer ≡ StaysOpen → IsTrue new.store.is_open
  pub kept : IsKeptAs config.max_upload becomes (Some reading)
  pub stop : Leaves new.store (LeftByArrival arrival)
  pub cause : answer ≡ Cut → HasRisen old.failures new.failures ⊎ IsCutWhileStreaming arrival

after_live : (config : Config) (stream piece : List ℕ) (s left : State) (moment : ℕ) (sent : List ℕ) (at : Place) (answer : Arrived) (now : ℕ) (is_dead : Bool) → now ≡ config.max_upload → (at ≡ Shut → is_dead ≡ true)
    → Serves config (ReadsBeyond config.max_upload stream piece) s moment sent left at answer → IsKeptAs config.max_upload (line_after (stream ++ piece) at) (Some (record { limit = now; place = at; is_dead = is_dead }))
after_live config stream piece s left moment sent (Open continued rest) answer now is_dead l d v =
    let r = serves_rest (ReadsBeyond config.max_upload stream piece) v tt in
    record { items = r.1.0 ++ r.0; same_limit = l; spells = record { reads = r.1.3; waits = r.2 }; is_open = tt }
after_live config stream piece s left moment sent Shut answer now is_dead l d v = record { same_limit = l; shut = refl; dead = d refl }

ended_next : (config : Config) (piece : List ℕ) (moment : ℕ) (old new : Outside) (limit : ℕ) (is_dead : Bool) {s left : State} {sent : List ℕ} {at : Place} {answer : Arrived}
    → limit ≡ config.max_upload → (at ≡ Shut → is_dead ≡ true) → Nothing s sent left at answer → (IsTrue new.store.is_open → Represents new.store left) → Leaves new.store (λ found. found ≡ s)
    → NextLine config piece moment ShutLine s sent old new (record { limit = limit; place = at; is_dead = is_dead }) answer
ended_next config piece moment old new limit is_dead same dead nothing represents stop = record {
  left = _;
  becomes = ShutLine;
  arrival = at_shut_line;
  represents = represents;
  stays_clean = λ e. cc;
  kept = record { same_limit = same; shut = refl; dead = dead refl };
  stop = stop;
  cause = λ e. cc;
}

-- an arrival at a line, by what is kept of it
pub arrival : (config : Config) (piece : List ℕ) (moment : ℕ) (line : Line) (s : State) (sent : List ℕ) (before after : Outside) (old new : Reading) (answer : Arrived)
    → new.limit ≡ old.limit → (IsDeadIfShut old → IsDeadIfShut new)
    → IsKeptAs config.max_upload line (Some old)
    → (old.limit ≡ config.max_upload → IsDeadIfShut old → ServesFrom config (arrival_of old piece moment) s sent before after new.place answer)
    → NextLine config piece moment line s sent before after new answer
arrival config piece moment Absent s sent before after old new answer m d k v = absurd k
arrival config piece moment (Live stream) s sent before after old new answer m d k v =
    let dead : IsDeadIfShut old = λ shut. absurd (open_shut old.place k.is_open shut) in
    let t = v k.same_limit dead in
    let Given : List Item → Place → Type 0 = λ items at. ReadsItems old.limit (place_with old.place piece) items at in
    let Beyond : List Item → Place → Type 0 = ReadsBeyond config.max_upload stream piece in
    let f : (items : List Item) (at : Place) → Given items at → Beyond items at =
    λ items at r. beyond config.max_upload stream piece old k items at (subst (λ n. ReadsItems n (place_with old.place piece) items at) k.same_limit r) in
    let w : Serves config Beyond s moment sent t.left new.place answer = serves_map Given Beyond f t.serves in
    record {
      left = t.left;
      becomes = line_after (stream ++ piece) new.place;
      arrival = at_live w;
      represents = t.represents;
      stays_clean = t.stays_clean;
      kept = after_live config stream piece s t.left moment sent new.place answer new.limit new.is_dead (m ∙ k.same_limit) (d dead) w;
      stop = leaves_wider after.store _ _ (λ c h. left_map Given Beyond f t.serves c h) t.stop;
      cause = λ e. elim (t.cause e) [ inl risen ↦ inl risen | inr content ↦ inr (content_map Given Beyond f t.serves content) ];
    }
arrival config piece moment ShutLine s sent before after old new answer m d k v =
    let dead : IsDeadIfShut old = λ _. k.dead in
    let t = v k.same_limit dead in
    let Given : List Item → Place → Type 0 = λ items at. ReadsItems old.limit (place_with old.place piece) items at in
    let AtEnd : List Item → Place → Type 0 = λ items at. ReadsItems old.limit Shut items at in
    let f : (items : List Item) (at : Place) → Given items at → AtEnd items at =
    λ items at r. subst (λ p. ReadsItems old.limit (place_with p piece) items at) k.shut r in
    let w : Serves config AtEnd s moment sent t.left new.place answer = serves_map Given AtEnd f t.serves in
    ended_next config piece moment before after new.limit new.is_dead (m ∙ k.same_limit) (d dead) (serves_ended old.limit w) t.represents
    (leaves_wider after.store _ _ (λ c h. ended_left old.limit w c (left_map Given AtEnd f t.serves c h)) t.stop)

-- an arrival that the machine answers from any state, and stays at it
pub record StillLine (config : Config) (piece : List ℕ) (moment : ℕ) (line : Line) (sent : List ℕ) (reading : Reading) (answer : Arrived) : Type 0 where
  pub becomes : Line
  pub arrival : (s : State) → Arrives config piece moment line s sent s becomes answer
  pub kept : IsKeptAs config.max_upload becomes (Some reading)

ended_still : (config : Config) (piece : List ℕ) (moment : ℕ) {s left : State} {sent : List ℕ} {at : Place} {answer : Arrived}
    → Nothing s sent left at answer → (at ≡ Shut) × ((t : State) → Arrives config piece moment ShutLine t sent t ShutLine answer)
ended_still config piece moment nothing = (refl, λ t. at_shut_line)

pub still_arrival : (config : Config) (piece : List ℕ) (moment : ℕ) (line : Line) (sent : List ℕ) (old new : Reading) (answer : Arrived)
    → new.limit ≡ old.limit → (IsDeadIfShut old → IsDeadIfShut new)
    → IsKeptAs config.max_upload line (Some old)
    → (old.limit ≡ config.max_upload → IsDeadIfShut old → (s : State) → Serves config (λ items at. ReadsItems old.limit (place_with old.place piece) items at) s moment sent s new.place answer)
    → StillLine config piece moment line sent new answer
still_arrival config piece moment Absent sent old new answer m d k v = absurd k
still_arrival config piece moment (Live stream) sent old new answer m d k v =
    let dead : IsDeadIfShut old = λ shut. absurd (open_shut old.place k.is_open shut) in
    let Given : List Item → Place → Type 0 = λ items at. ReadsItems old.limit (place_with old.place piece) items at in
    let Beyond : List Item → Place → Type 0 = ReadsBeyond config.max_upload stream piece in
    let f : (items : List Item) (at : Place) → Given items at → Beyond items at =
    λ items at r. beyond config.max_upload stream piece old k items at (subst (λ n. ReadsItems n (place_with old.place piece) items at) k.same_limit r) in
    let w : (s : State) → Serves config Beyond s moment sent s new.place answer = λ s. serves_map Given Beyond f (v k.same_limit dead s) in
    record {
      becomes = line_after (stream ++ piece) new.place;
      arrival = λ s. at_live (w s);
      kept = after_live config stream piece empty_state empty_state moment sent new.place answer new.limit new.is_dead (m ∙ k.same_limit) (d dead) (w empty_state);
    }
still_arrival config piece moment ShutLine sent old new answer m d k v =
    let dead : IsDeadIfShut old = λ _. k.dead in
    let Given : List Item → Place → Type 0 = λ items at. ReadsItems old.limit (place_with old.place piece) items at in
    let AtEnd : List Item → Place → Type 0 = λ items at. ReadsItems old.limit Shut items at in
    let f : (items : List Item) (at : Place) → Given items at → AtEnd items at =
    λ items at r. subst (λ p. ReadsItems old.limit (place_with p piece) items at) k.shut r in
    let w : Serves config AtEnd empty_state moment sent empty_state new.place answer = serves_map Given AtEnd f (v k.same_limit dead empty_state) in
    let t = ended_still config piece moment (serves_ended old.limit w) in
    record { becomes = ShutLine; arrival = t.1; kept = record { same_limit = m ∙ k.same_limit; shut = t.0; dead = d dead t.0 } }

-- ---- a stop at the end of an arrival

-- what is found is what the arrival left, but where a fixed reply was sent in place of an item's own
may_shut : {config : Config} {piece : List ℕ} {moment : ℕ} {line after : Line} {s left : State} {sent : List ℕ} {answer : Arrived}
    (a : Arrives config piece moment line s sent left after answer) (found : State) → LeftByArrival a found → MayShut a ⊎ (found ≡ left)
may_shut (at_live (serves_all items r w)) found l = inr l
may_shut (at_live (step_fails items item at r (given_up fixed sends leaves))) found l = inl tt
may_shut (at_live (step_fails items item at r (cut_short part leaves))) found l = inr l
may_shut (at_live (gives_up items at r b x)) found l = inr l
may_shut at_shut_line found l = inr l

pub stopped_run : (config : Config) {first : State} {records : List Record} {w : World} (r : Run config first records w) (n : ℕ) {piece : List ℕ} {moment : ℕ} {sent : List ℕ}
    {left : State} {line : Line} {answer : Arrived} (a : Arrives config piece moment (w.line n) w.state sent left line answer) (found : State) → LeftByArrival a found
    → Run config first (records ++ record { event = Arrive n piece moment; sent = sent } ∷ stopped ∷ []) (first_world found)
stopped_run config {first} {records} r n {piece} {moment} {sent} {left} a found l = elim (may_shut a found l) [
  | inl shut ↦ breaks found r a shut l
  | inr same ↦ (
      let one : Record = record { event = Arrive n piece moment; sent = sent } in
      subst (λ (s : State). Run config first (records ++ one ∷ stopped ∷ []) (first_world s)) (sym same)
      (subst (λ (rs : List Record). Run config first rs (first_world left)) (append_assoc records (one ∷ []) (stopped ∷ [])) (stops (goes_on r (arrives a))))
      )
]

pub none_there : (o : Option Reading) → o ≡ None → IsSome o → ⊥
none_there None e s = cc
none_there (Some r) e s = cc

module _ (n i : ℕ) (cs : List Connection) (c : Connection) (index : place_of_number n cs ≡ Some i) (item : c ≡ get_or cs i c) where
  pub not_absent : intake_of cs n ≡ None → ⊥
  not_absent e = none_there (intake_of cs n) e (subst (λ o. IsSome o) (sym (index_some n i cs c index item).1) refl)

  -- a connection that is changed is there afterwards
  pub stays_there : (now : Reading) (b : Behind) → IsSome (intake_of (set cs i (record { number = c.number; intake = now; behind = b })) n)
  stays_there now b =
      let found = index_some n i cs c index item in
      let some : intake_of (set cs i (record { number = c.number; intake = now; behind = b })) n ≡ Some now =
      intake_set n i cs (record { number = c.number; intake = now; behind = b }) index found.0 n ∙ ap (λ b. if b then Some now else intake_of cs n) (eq-eqb n n refl) in
      subst (λ o. IsSome o) (sym some) refl

-- the numbers ascend in one way
pub same_hub : {A : Type 0} (hub : Hub A) (a : Ascends 0 hub.connections.items hub.next) (b : hub.is_busy ≡ is_any_pending hub.connections.items)
    (w : hub.is_awaiting ≡ is_any_waiting hub.connections.items) → record hub { ascends = a; busy = b; awaiting = w } ≡ hub
same_hub hub a b w i = record hub {
  ascends = Ascends-prop 0 hub.connections.items hub.next a hub.ascends i;
  busy = Bool-set hub.is_busy (is_any_pending hub.connections.items) b hub.busy i;
  awaiting = Bool-set hub.is_awaiting (is_any_waiting hub.connections.items) w hub.awaiting i;
}

-- so it is where the connections are written back as they were
same_items : {A : Type 0} (hub : Hub A) (cs : List Connection) → cs ≡ hub.connections.items → (fits : hub.connections.len ≡ length cs)
    → record hub.connections { items = cs; ok = (fits, hub.connections.ok.1) } ≡ hub.connections
same_items hub cs e = subst (λ (xs : List Connection). (fits : hub.connections.len ≡ length xs) → record hub.connections { items = xs; ok = (fits, hub.connections.ok.1) } ≡ hub.connections)
    (sym e) (λ fits i. record hub.connections { ok = (Coded-set coded_ℕ hub.connections.len (length hub.connections.items) fits hub.connections.ok.0 i, hub.connections.ok.1) })

pub same_again : {A : Type 0} (hub : Hub A) (i : ℕ) (c : Connection) → set hub.connections.items i c ≡ hub.connections.items
    → (a : Ascends 0 (set hub.connections.items i c) hub.next) (b : hub.is_busy ≡ is_any_pending (set hub.connections.items i c))
    (w : hub.is_awaiting ≡ is_any_waiting (set hub.connections.items i c)) → record hub { connections = with_item hub.connections i c; ascends = a; busy = b; awaiting = w } ≡ hub
same_again hub i c e = subst (λ v. (a : Ascends 0 v.items hub.next) (b : hub.is_busy ≡ is_any_pending v.items) (w : hub.is_awaiting ≡ is_any_waiting v.items)
    → record hub { connections = v; ascends = a; busy = b; awaiting = w } ≡ hub) (sym (same_items hub (set hub.connections.items i c) e (with_item hub.connections i c).ok.0)) (same_hub hub)

module _ {A : Type 0} (condition : A → Condition) (old new : Hub A) (n i : ℕ) (piece : List ℕ) (moment : ℕ) (c : Connection) (now : Reading) (b : Behind)
    (index : place_of_number n old.connections.items ≡ Some i) (item : c ≡ get_or old.connections.items i c)
    (config : new.config ≡ old.config) (next : new.next ≡ old.next)
    (changed : new.connections.items ≡ set old.connections.items i (record { number = c.number; intake = now; behind = b }))
    (limit : now.limit ≡ c.intake.limit) (dead : IsDeadIfShut c.intake → IsDeadIfShut now) (law : IsClean condition new → IsHonest condition new) (settles : Settles (store_of condition new))
    (held holds : Option (List ℕ)) (failures failures_after : ℕ) where
  abbrev Over : Arrived → Type 0
  Over answer = ServesOver old.config (arrival_of c.intake piece moment) (outside held failures (store_of condition old)) (outside holds failures_after (store_of condition new)) now.place answer

  -- the world after the arrival
  arrives_at : (answer : Arrived) (v : Over answer) → IsHonest condition new → (w : World) → RepresentsAt condition old w
      → ArrivesTo condition old.config new n piece moment v.sent failures failures_after answer w
  arrives_at answer v honest w at =
      let found = index_some n i old.connections.items c index item in
      let kept : IsKeptAs old.config.max_upload (w.line n) (Some c.intake) = subst (λ o. IsKeptAs old.config.max_upload (w.line n) o) found.1 (at.kept n) in
      let r = arrival old.config piece moment (w.line n) w.state v.sent (outside held failures (store_of condition old)) (outside holds failures_after (store_of condition new))
      c.intake now answer limit dead kept (λ same still. v.serves same still honest w.state at.state) in
      record {
        left = r.left;
        line = r.becomes;
        arrives = r.arrival;
        represents = λ clean. record {
          state = r.represents clean;
          kept = subst (λ (x : _). (m : ℕ) → IsKeptAs x.max_upload (with_line n r.becomes w.line m) (intake_of new.connections.items m)) (sym config)
              (kept_put old.config.max_upload n r.becomes w.line (Some now) old.connections.items new.connections.items r.kept at.kept
              (λ m. ap (λ cs. intake_of cs m) changed ∙ intake_set n i old.connections.items (record { number = c.number; intake = now; behind = b }) index found.0 m));
        };
        rests = λ clean. stays_as (store_of condition new) r.left settles (r.represents clean);
        stays_clean = r.stays_clean;
        stop = r.stop;
        cause = r.cause;
      }

  arrives_adds : (answer : Arrived) (v : Over answer) → IsClean condition new → AddsRecord condition old new (Arrive n piece moment) v.sent
  arrives_adds answer v clean first records h =
      let a = arrives_at answer v (law clean) h.world h.at in
      record {
        world = record { state = a.left; line = with_line n a.line h.world.line };
        run = subst (λ (x : _). Run x first (records ++ record { event = Arrive n piece moment; sent = v.sent } ∷ []) (record { state = a.left; line = with_line n a.line h.world.line })) (sym config)
            (goes_on h.run (arrives a.arrives));
        at = a.represents clean;
      }

  arrives_stops : (answer : Arrived) (v : Over answer) → StopsAfter condition old new (Arrive n piece moment) v.sent
  arrives_stops answer v honest first records h =
      let a = arrives_at answer v honest h.world h.at in
      leaves_wider (store_of condition new) _ _ (λ c l. stopped_run old.config h.run n a.arrives c l) a.stop

  -- over a store that was shut
  arrives_shut : (answer : Arrived) (v : Over answer) → IfShut (store_of condition old) (store_of condition new) (ArrivesShut condition old new n piece moment v.sent answer)
  arrives_shut answer v disk shut =
      let found = index_some n i old.connections.items c index item in
      let both = v.shut disk shut in
      record {
        sends = both.0;
        leaves = both.1;
        goes_on = λ lines keeps.
            let kept : IsKeptAs old.config.max_upload (lines n) (Some c.intake) = subst (λ o. IsKeptAs old.config.max_upload (lines n) o) found.1 (keeps n) in
            let r = still_arrival old.config piece moment (lines n) v.sent c.intake now answer limit dead kept (v.still disk shut) in (
              r.becomes,
              r.arrival,
              subst (λ (x : _). (m : ℕ) → IsKeptAs x.max_upload (with_line n r.becomes lines m) (intake_of new.connections.items m)) (sym config)
                  (kept_put old.config.max_upload n r.becomes lines (Some now) old.connections.items new.connections.items r.kept keeps
                  (λ m. ap (λ cs. intake_of cs m) changed ∙ intake_set n i old.connections.items (record { number = c.number; intake = now; behind = b }) index found.0 m)),
            );
      }

  over : (answer : Arrived) → Over answer → ArrivesOver condition held holds failures failures_after old new n piece moment answer
  over answer v = record {
    sent = v.sent;
    appends = v.passes.appends;
    arrival = record {
      adds = arrives_adds answer v;
      stops = arrives_stops answer v;
      clean = v.passes.clean;
      honest = v.passes.honest;
      answers = arrives_at answer v;
      shut = arrives_shut answer v;
    };
    goes = record { config = config; next = next; clean = v.passes.clean; honest = v.passes.honest };
    was_there = subst (λ (o : Option Reading). IsSome o) (sym (index_some n i old.connections.items c index item).1) refl;
    is_there = subst (λ (cs : List Connection). IsSome (intake_of cs n)) (sym changed) (stays_there n i old.connections.items c index item now b);
  }

  pub comes_to : (answer : Arrived) → answer ≢ NoSuch → Over answer → ComesTo condition held holds failures failures_after old new n piece moment answer
  comes_to StaysOpen there v = over StaysOpen v
  comes_to Closed there v = over Closed v
  comes_to Cut there v = over Cut v
  comes_to NoSuch there v = absurd (there refl)

-- a connection that is not there is as good as closed
absent_if : (n m : ℕ) (cs : List Connection) (b : Bool) → b ≡ (m == n) → intake_of cs n ≡ None → intake_of cs m ≡ (if b then None else intake_of cs m)
absent_if n m cs true e f = ap (λ k. intake_of cs k) (eqb-true m n (sym e)) ∙ f
absent_if n m cs false e f = refl

pub absent_already : (n : ℕ) (cs : List Connection) → intake_of cs n ≡ None → (m : ℕ) → intake_of cs m ≡ (if m == n then None else intake_of cs m)
absent_already n cs f m = absent_if n m cs (m == n) refl f

module _ {A : Type 0} (condition : A → Condition) (old new : Hub A) (config : new.config ≡ old.config) where
  same_state : (w : State) → new.store ≡ old.store → Represents (store_of condition old) w → Represents (store_of condition new) w
  same_state w store h = subst (λ (x : A). Represents (condition x) w) (sym store) h

  -- a connection is closed
  pub closes_moves : (n : ℕ) → new.store ≡ old.store
      → ((m : ℕ) → intake_of new.connections.items m ≡ (if m == n then None else intake_of old.connections.items m))
      → Transition condition old new (Close n) []
  closes_moves n store gone w at = (
    record { state = w.state; line = with_line n Absent w.line },
    closes,
    record {
      state = same_state w.state store at.state;
      kept = subst (λ (x : _). (m : ℕ) → IsKeptAs x.max_upload (with_line n Absent w.line m) (intake_of new.connections.items m)) (sym config)
          (kept_put old.config.max_upload n Absent w.line None old.connections.items new.connections.items tt at.kept gone);
    },
  )

  -- what moves, adds
  pub moves_adds : (event : ServerEvent) (sent : List ℕ) → Transition condition old new event sent → AddsRecord condition old new event sent
  moves_adds event sent m first records h =
      let a = m h.world h.at in
      record {
        world = a.0;
        run = subst (λ (x : _). Run x first (records ++ record { event = event; sent = sent } ∷ []) a.0) (sym config) (goes_on h.run a.1);
        at = a.2;
      }

  -- a connection is opened
  pub connects_moves : (n : ℕ) → new.store ≡ old.store → n ≡ old.next
      → new.connections.items ≡ old.connections.items ++ record { number = n; intake = record { limit = old.config.max_upload; place = Open false []; is_dead = false }; behind = behind.Nothing } ∷ []
      → Transition condition old new (Connect n) []
  connects_moves n store this items w at =
      let d : Connection = record { number = n; intake = record { limit = old.config.max_upload; place = Open false []; is_dead = false }; behind = behind.Nothing } in
      let low : Ascends 0 old.connections.items n = subst (λ k. Ascends 0 old.connections.items k) (sym this) old.ascends in (
        record { state = w.state; line = with_line n (Live []) w.line },
        connects,
        record {
          state = same_state w.state store at.state;
          kept = subst (λ (x : _). (m : ℕ) → IsKeptAs x.max_upload (with_line n (Live []) w.line m) (intake_of new.connections.items m)) (sym config)
              (kept_put old.config.max_upload n (Live []) w.line (Some d.intake) old.connections.items new.connections.items (kept_fresh old.config.max_upload) at.kept
              (λ m. ap (λ cs. intake_of cs m) items ∙ intake_push 0 old.connections.items d low m));
        },
      )

  -- a hub that stands at the same worlds represents the same records
  pub same_represents : ((w : World) → RepresentsAt condition old w → RepresentsAt condition new w)
      → (first : State) (records : List Record) → RepresentsAfter condition old first records → RepresentsAfter condition new first records
  same_represents same first records h = record {
    world = h.world;
    run = subst (λ (x : _). Run x first records h.world) (sym config) h.run;
    at = same h.world h.at;
  }

-- a stop at rest
pub rests : {A : Type 0} (condition : A → Condition) (hub : Hub A) → Settles (store_of condition hub) → (first : State) (records : List Record) → RepresentsAfter condition hub first records
    → Leaves (store_of condition hub) (λ found. Run hub.config first (records ++ stopped ∷ []) (first_world found))
rests condition hub settles first records h =
    leaves_wider (store_of condition hub) _ _ (λ c e. subst (λ s. Run hub.config first (records ++ stopped ∷ []) (first_world s)) (sym e) (stops h.run))
    (stays_as (store_of condition hub) h.world.state settles h.at.state)

-- the store is the one of before, and so is what a stop leaves
pub leaves_as_before : {A : Type 0} (condition : A → Condition) (old : Hub A) (store : A) → store ≡ old.store → Settles (store_of condition old)
    → (w : World) → RepresentsAt condition old w → Leaves (condition store) (λ found. found ≡ w.state)
leaves_as_before condition old store same settles w at =
    subst (λ (x : _). Leaves (condition x) (λ found. found ≡ w.state)) (sym same) (stays_as (store_of condition old) w.state settles at.state)
