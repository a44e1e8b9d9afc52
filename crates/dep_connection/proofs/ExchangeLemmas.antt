-- How the machine answers the turns of a connection, as the hub answered them.
use Rattle.std.proofs.Common.{Bool, Option, inl, inr, ◌≡◌, ℕ, List, [], ◌∷◌, ◌++◌, map, refl, sym, ap, subst, ◌∙◌, append_assoc}
use Rattle.std.proofs.lemmas.List.{append-nil}
use Rattle.std.proofs.lemmas.Bool.{both_ways, cases_Bool}
use Rattle.dep_types.specs.State.{State}
use Rattle.dep_types.specs.declared.config.Config.{Config}
use Rattle.dep_types.specs.Conditions.{Condition, Leaves}
use Rattle.dep_message.specs.Places.{Place, Open, Shut, Reading}
use Rattle.dep_message.specs.Stream.{Item}
use Rattle.dep_exchange.specs.Machine.{answer_at_place, Fails, given_up, cut_short, Serves, serves_all, step_fails, gives_up}
use Rattle.dep_exchange.specs.Stops.{LeftByFailure, LeftByServing}
use Rattle.dep_exchange.specs.Records.{World, Line, with_line, Record, stopped, first_world, Run, goes_on, stops, Arrives, at_live, at_shut_line, LeftByArrival, arrives}
use Rattle.dep_hub.specs.Representing.{IsKeptAs, IsArrival, KeepsLines, RepresentsAt, IsClean, IsHonest, intake_of, store_of}
use Rattle.dep_connection.specs.Turns.{ServedPiece, record_of, last_answer, Exchanges, none_yet, one_more, LeftByExchanges}
use Rattle.dep_connection.specs.Conversation.{Outflow, Talks, WorksAhead, silent, turn, ahead}
use Rattle.dep_hub.specs.declared.hub.Hub.{Hub}
use Rattle.dep_exchange.specs.declared.arrived.Arrived.{Arrived}
use Rattle.dep_exchange.specs.declared.arrived.Arrived.TheVariants.{Open as StaysOpen, NoSuch}
use Rattle.dep_exchange.proofs.Leaving.{Settles, stays_as, leaves_wider, leaves_before}
use Rattle.dep_hub.proofs.HubLemmas.{stopped_run}
use Rattle.dep_exchange.proofs.ShutLemmas.{there_sent}

pub map_more : (n : ℕ) (turns : List ServedPiece) (t : ServedPiece) → map (record_of n) (turns ++ t ∷ []) ≡ map (record_of n) turns ++ record_of n t ∷ []
map_more n [] t = refl
map_more n (u ∷ turns) t = ap (λ l. record_of n u ∷ l) (map_more n turns t)

pub last_more : (turns : List ServedPiece) (t : ServedPiece) → last_answer (turns ++ t ∷ []) ≡ t.answer
last_more [] t = refl
last_more (u ∷ []) t = refl
last_more (u ∷ v ∷ turns) t = last_more (v ∷ turns) t

-- the records of the turns
pub exchanges_run : (config : Config) (n : ℕ) (first : State) (records : List Record) (w v : World) (turns : List ServedPiece)
    → Run config first records w → Exchanges config n w turns v → Run config first (records ++ map (record_of n) turns) v
exchanges_run config n first records w v turns r none_yet = subst (λ rs. Run config first rs w) (sym (append-nil records)) r
exchanges_run config n first records w v turns r (one_more {turns = before} {w = mid} {left} {line} t x stays a) =
    subst (λ rs. Run config first rs v)
    (append_assoc records (map (record_of n) before) (record_of n t ∷ []) ∙ ap (λ l. records ++ l) (sym (map_more n before t)))
    (goes_on (exchanges_run config n first records w mid before r x) (arrives a))

-- a stop that leaves what it may leave at the end of the turns
exchanges_stop : (config : Config) (n : ℕ) (first : State) (records : List Record) (w v : World) (turns : List ServedPiece)
    → Run config first records w → (x : Exchanges config n w turns v) (found : State) → LeftByExchanges x found
    → Run config first ((records ++ map (record_of n) turns) ++ stopped ∷ []) (first_world found)
exchanges_stop config n first records w v turns r none_yet found e =
    subst (λ rs. Run config first (rs ++ stopped ∷ []) (first_world found)) (sym (append-nil records))
    (subst (λ (s : State). Run config first (records ++ stopped ∷ []) (first_world s)) (sym e) (stops r))
exchanges_stop config n first records w v turns r (one_more {turns = before} {w = mid} t x stays a) found l =
    subst (λ rs. Run config first rs (first_world found))
    (sym (append_assoc (records ++ map (record_of n) before) (record_of n t ∷ []) (stopped ∷ []))
    ∙ ap (λ rs. rs ++ stopped ∷ []) (append_assoc records (map (record_of n) before) (record_of n t ∷ []) ∙ ap (λ m. records ++ m) (sym (map_more n before t))))
    (stopped_run config (exchanges_run config n first records w mid before r x) n a found l)

-- what an arrival left is what a stop at its end may leave
failure_left : {config : Config} {s : State} {item : Item} {moment : ℕ} {sent : List ℕ} {left : State} {answer : Arrived}
    (f : Fails config s item moment sent left answer) → LeftByFailure f left
failure_left (given_up fixed sends (inl e)) = inl e
failure_left (given_up fixed sends (inr e)) = inr (inl e)
failure_left (cut_short part leaves) = refl

serving_left : {config : Config} {reads : List Item → Place → Type 0} {s : State} {moment : ℕ} {sent : List ℕ} {left : State} {at : Place} {answer : Arrived}
    (v : Serves config reads s moment sent left at answer) → LeftByServing v left
serving_left (serves_all items reads waits) = refl
serving_left (step_fails items item at reads fails) = failure_left fails
serving_left (gives_up items at reads some sends) = refl

own_left : {config : Config} {piece : List ℕ} {moment : ℕ} {line after : Line} {s left : State} {sent : List ℕ} {answer : Arrived}
    (a : Arrives config piece moment line s sent left after answer) → LeftByArrival a left
own_left (at_live serves) = serving_left serves
own_left at_shut_line = refl

end_left : {config : Config} {n : ℕ} {first w : World} {turns : List ServedPiece} (e : Exchanges config n first turns w) → LeftByExchanges e w.state
end_left none_yet = refl
end_left (one_more t e stays a) = own_left a

-- an arrival at a connection that is there
fails_there : {config : Config} {s : State} {item : Item} {moment : ℕ} {sent : List ℕ} {left : State} {answer : Arrived}
    → Fails config s item moment sent left answer → answer ≡ NoSuch → ⊥
fails_there (given_up fixed sends leaves) e = there_sent sends e
fails_there (cut_short part leaves) e = cc

place_there : (at : Place) → answer_at_place at ≡ NoSuch → ⊥
place_there (Open continued rest) e = cc
place_there Shut e = cc

serves_there : {config : Config} {reads : List Item → Place → Type 0} {s : State} {moment : ℕ} {sent : List ℕ} {left : State} {at : Place} {answer : Arrived}
    → Serves config reads s moment sent left at answer → answer ≡ NoSuch → ⊥
serves_there (serves_all items {at} reads waits) e = place_there at e
serves_there (step_fails items item at reads fails) e = fails_there fails e
serves_there (gives_up items at reads some sends) e = there_sent sends e

pub arrives_there : {config : Config} {piece : List ℕ} {moment : ℕ} {line after : Line} {s left : State} {sent : List ℕ} {answer : Arrived}
    → Arrives config piece moment line s sent left after answer → answer ≡ NoSuch → ⊥
arrives_there (at_live serves) e = serves_there serves e
arrives_there at_shut_line e = cc

-- an arrival carried over to the same configuration leaves the same by a stop, and so do turns
left_along : {piece : List ℕ} {moment : ℕ} {line after : Line} {s left : State} {sent : List ℕ} {answer : Arrived} (given config : Config) (same : given ≡ config)
    (a : Arrives given piece moment line s sent left after answer) (found : State) → LeftByArrival a found
    → LeftByArrival (subst (λ (x : Config). Arrives x piece moment line s sent left after answer) same a) found
left_along {piece} {moment} {line} {after} {s} {left} {sent} {answer} given config same a found l =
    (subst (λ (x : Config). (b : Arrives x piece moment line s sent left after answer) × LeftByArrival b found) same (a, l)).1

pub exchanged_along : {n : ℕ} {first w : World} {turns : List ServedPiece} (given config : Config) (same : given ≡ config)
    (e : Exchanges given n first turns w) (found : State) → LeftByExchanges e found
    → LeftByExchanges (subst (λ (x : Config). Exchanges x n first turns w) same e) found
exchanged_along {n} {first} {w} {turns} given config same e found l =
    (subst (λ (x : Config). (b : Exchanges x n first turns w) × LeftByExchanges b found) same (e, l)).1

-- ---- from hubs to the machine

module _ {A : Type 0} (condition : A → Condition) where
  -- the hub keeps the lines that it kept, where its store worked ahead
  keeps_ahead : (may_commit : A → Bool) (old new : Hub A) (lines : ℕ → Line) → WorksAhead condition may_commit old new → KeepsLines condition old lines → KeepsLines condition new lines
  keeps_ahead may_commit old new lines a kept number =
      subst (λ (x : Config). IsKeptAs x.max_upload (lines number) (intake_of new.connections.items number)) (sym a.same_config)
      (subst (λ (o : Option Reading). IsKeptAs old.config.max_upload (lines number) o) (sym (a.same_intakes number)) (kept number))

  -- What the machine comes to by the turns. While the store is open the hub stands at it; where the connection is left open, the
  -- hub keeps its lines, and a crash leaves its state, also where the store was shut since.
  pub record Exchanged (config : Config) (n : ℕ) (new : Hub A) (turns : List ServedPiece) (w : World) : Type 0 where
    pub talked : World
    pub exchanges : Exchanges config n w turns talked
    pub kept : last_answer turns ≡ StaysOpen → KeepsLines condition new talked.line
    pub stays : last_answer turns ≡ StaysOpen → Leaves (store_of condition new) (λ found. found ≡ talked.state)
    pub at : IsClean condition new → RepresentsAt condition new talked
    pub rests : IsClean condition new → Leaves (store_of condition new) (λ found. found ≡ talked.state)
    pub stop : Leaves (store_of condition new) (LeftByExchanges exchanges)

  -- one turn more, over a store that is open
  exchange_open : (config : Config) (n : ℕ) (mid new : Hub A) (between failures_after : ℕ) (before : List ServedPiece) (t : ServedPiece) (w : World) → last_answer before ≡ StaysOpen → mid.config ≡ config
      → IsArrival condition mid new n t.piece t.moment t.sent between failures_after t.answer → IsHonest condition new → IsClean condition mid
      → Exchanged config n mid before w → Exchanged config n new (before ++ t ∷ []) w
  exchange_open config n mid new between failures_after before t w stays same a honest is_open h =
      let b = a.answers honest h.talked (h.at is_open) in
      let clean : last_answer (before ++ t ∷ []) ≡ StaysOpen → IsClean condition new = λ e. b.stays_clean (sym (last_more before t) ∙ e) in
      record {
        talked = record { state = b.left; line = with_line n b.line h.talked.line };
        exchanges = one_more t h.exchanges stays (subst (λ (x : Config). Arrives x t.piece t.moment (h.talked.line n) h.talked.state t.sent b.left b.line t.answer) same b.arrives);
        kept = λ e. (b.represents (clean e)).kept;
        stays = λ e. b.rests (clean e);
        at = b.represents;
        rests = b.rests;
        stop = leaves_wider (store_of condition new) _ _ (λ c l. left_along mid.config config same b.arrives c l) b.stop;
      }

  -- one turn more, over a store that was shut since the last one
  exchange_shut : (config : Config) (n : ℕ) (mid new : Hub A) (between failures_after : ℕ) (before : List ServedPiece) (t : ServedPiece) (w : World) → last_answer before ≡ StaysOpen → mid.config ≡ config
      → IsArrival condition mid new n t.piece t.moment t.sent between failures_after t.answer → IsHonest condition new → ¬ IsClean condition mid
      → Exchanged config n mid before w → Exchanged config n new (before ++ t ∷ []) w
  exchange_shut config n mid new between failures_after before t w stays same a honest shut h =
      let s = a.shut honest shut in
      let g = s.goes_on h.talked.line (h.kept stays) in
      let arrival = g.1 h.talked.state in
      let left : Leaves (store_of condition new) (λ found. found ≡ h.talked.state) = leaves_before (store_of condition mid) (store_of condition new) _ s.leaves (h.stays stays) in
      record {
        talked = record { state = h.talked.state; line = with_line n g.0 h.talked.line };
        exchanges = one_more t h.exchanges stays (subst (λ (x : Config). Arrives x t.piece t.moment (h.talked.line n) h.talked.state t.sent h.talked.state g.0 t.answer) same arrival);
        kept = λ e. g.2;
        stays = λ e. left;
        at = λ clean. absurd (shut (a.clean clean));
        rests = λ clean. left;
        stop = leaves_wider (store_of condition new) _ _ (λ c e. left_along mid.config config same arrival c (subst (λ (x : State). LeftByArrival arrival x) (sym e) (own_left arrival))) left;
      }

  -- what the hub answered is what the machine answers
  pub talks_exchange : (may_commit : A → Bool) (shown : Outflow → Type 0) (n : ℕ) (old new : Hub A) (first last : Outflow) (turns : List ServedPiece) → Settles (store_of condition old)
      → Talks condition may_commit shown n old first turns new last
      → IsHonest condition new → (w : World) → RepresentsAt condition old w → Exchanged old.config n new turns w
  talks_exchange may_commit shown n old new first last turns settles silent honest w at = record {
    talked = w;
    exchanges = none_yet;
    kept = λ _. at.kept;
    stays = λ _. stays_as (store_of condition old) w.state settles at.state;
    at = λ _. at;
    rests = λ _. stays_as (store_of condition old) w.state settles at.state;
    stop = stays_as (store_of condition old) w.state settles at.state;
  }
  talks_exchange may_commit shown n old new first last turns settles (turn {mid = mid} {before = between} {turns = before} t talks stays out same a sends flushed shows) honest w at =
      let h = talks_exchange may_commit shown n old mid first between before settles talks (a.honest honest) w at in
      elim (cases_Bool (store_of condition mid).is_open) [
        | inl is_open ↦ exchange_open old.config n mid new between.failures last.failures before t w stays same a honest is_open h
        | inr shut ↦ exchange_shut old.config n mid new between.failures last.failures before t w stays same a honest (both_ways (store_of condition mid).is_open shut) h
      ]
  talks_exchange may_commit shown n old new first last turns settles (ahead {mid = mid} talks stays out a) honest w at =
      let h = talks_exchange may_commit shown n old mid first last turns settles talks (a.store.honest honest) w at in
      let left : Leaves (store_of condition new) (λ found. found ≡ h.talked.state) = elim (cases_Bool (store_of condition mid).is_open) [
        | inl is_open ↦ a.store.stop honest h.talked.state (h.at is_open).state
        | inr shut ↦ leaves_before (store_of condition mid) (store_of condition new) _ (a.store.left honest (both_ways (store_of condition mid).is_open shut)) (h.stays stays)
      ] in
      record {
        talked = h.talked;
        exchanges = h.exchanges;
        kept = λ e. keeps_ahead may_commit mid new h.talked.line a (h.kept e);
        stays = λ e. left;
        at = λ clean.
            let stood = h.at (a.store.was_open clean) in
            record { state = a.store.kept clean h.talked.state stood.state; kept = keeps_ahead may_commit mid new h.talked.line a stood.kept };
        rests = λ clean. left;
        stop = leaves_wider (store_of condition new) _ _ (λ found e. subst (LeftByExchanges h.exchanges) (sym e) (end_left h.exchanges)) left;
      }

  -- what a stop now leaves goes on from the turns
  pub talks_stop : (may_commit : A → Bool) (shown : Outflow → Type 0) (n : ℕ) (old new : Hub A) (out last : Outflow) (turns : List ServedPiece) → Settles (store_of condition old)
      → Talks condition may_commit shown n old out turns new last
      → IsHonest condition new → (first : State) (records : List Record) (w : World) → Run old.config first records w → RepresentsAt condition old w
      → Leaves (store_of condition new) (λ found. Run old.config first ((records ++ map (record_of n) turns) ++ stopped ∷ []) (first_world found))
  talks_stop may_commit shown n old new out last turns settles talks honest first records w run at =
      let h = talks_exchange may_commit shown n old new out last turns settles talks honest w at in
      leaves_wider (store_of condition new) _ _ (λ found l. exchanges_stop old.config n first records w h.talked turns run h.exchanges found l) h.stop
