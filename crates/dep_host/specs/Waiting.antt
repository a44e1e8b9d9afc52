-- Rounds all through which a request waits that takes files, and how many may pass before nothing stands in its way.
use Rattle.std.specs.Prelude.{◌≡◌, ◌<◌, ◌≤◌, ◌+◌, ◌*◌, nat_lt, ℕ, suc, Bool, true, false, List, [], ◌++◌, length, Option, None, Some}
use Rattle.dep_types.specs.State.{State}
use Rattle.dep_types.specs.Conditions.{Condition}
use Rattle.dep_exchange.specs.Records.{Record}
use Rattle.dep_hub.specs.Representing.{IsClean}
use Rattle.dep_hub.specs.Holding.{RepresentsHoldingAfter}
use Rattle.dep_hub.specs.Claims.{has_to_wait, sends_of}
use Rattle.dep_hub.specs.RepresentsOwing.{behind_at}
use Rattle.dep_hub.specs.declared.claim.Claim.TheVariants.{Takes}
use Rattle.dep_hub.specs.declared.claim.Files.{Files}
use Rattle.dep_hub.specs.declared.hub.Hub.{Hub}
use Rattle.dep_hub.specs.declared.rest.Behind.TheVariants.{Waits}
use Rattle.dep_slot.specs.Causes.{Causes}
use Rattle.dep_slot.specs.Notes.{Note}
use Rattle.dep_slot.specs.declared.slot.Slot.{Slot}
use Rattle.dep_slot.specs.declared.slot.Time.{Time}
use Rattle.dep_host.specs.Sharing.{is_turn, most_sent}
use Rattle.dep_host.specs.Actions.{Position, HostAction, IsEmpty, slot_at, unfinished_in}
use Rattle.dep_host.specs.Hosting.{GoesRound, HasTime, IsServedAt, Steps}
use Rattle.dep_host.specs.Runs.{KeepsPromise, OwesNone}
use Rattle.dep_host.specs.Laws.{StepsAwaiting}

-- How long a request has to wait that takes these files: a hub goes on by so many rounds, once these bytes were owed to
-- each connection.
pub record BecomesFree {A : Type 0} (old new : Hub A) (files : Files) (owed : ℕ → List ℕ)
    (rounds k : ℕ) : Type 0 where
  -- a content of these files is still being sent to a connection behind fewer rounds alone than k for each byte, and k
  -- more
  pub each : (number : ℕ) → sends_of files (behind_at new.connections.items number) ≡ true
      → rounds < k * (length (owed number) + 1)
  -- behind as many, for each to which one was being sent at first, nothing stands in the way of the request
  pub free : ((number : ℕ) → sends_of files (behind_at old.connections.items number) ≡ true
      → k * (length (owed number) + 1) ≤ rounds)
      → has_to_wait new.connections.items (Takes files) ≡ false

module _ {A R K S : Type 0} (condition : A → Condition) (unread : R → Option (List ℕ))
    (taken : K → Option (List ℕ)) (held : S → Option (List ℕ)) (size : S → ℕ)
    (causes : Causes R K S) where
  -- where the hub was asked, in the turn of who was at a place, whether a request waits for what is sent to it, the
  -- request of this connection waits that takes these files
  abbrev pub WaitsInTurn : (waiting : ℕ) → Files → (p q : Position A R K S) → (is_full may_send : Bool)
      → (actions : List HostAction) → (place : ℕ) → (who : Option (Slot R K S))
      → IsServedAt condition unread taken held size causes p q is_full may_send actions place who
      → Type 0
  WaitsInTurn waiting files p q is_full may_send actions place None turn = Unit {0}
  WaitsInTurn waiting files p q is_full may_send actions place (Some slot) turn =
      behind_at turn.asked.mid.hub.connections.items waiting ≡ Waits (Takes files)

  -- a round, behind each step of which a request of this connection waits that takes these files, as it does each time
  -- that the hub is asked; who is at a place behind it has time left, so that nobody is there who is over
  pub record RoundAwaiting (waiting : ℕ) (files : Files) (p q : Position A R K S) (first next : ℕ)
      : Type 0 where
    pub time : Time
    pub reported : Option (List Note)
    pub reports : Option (List Note)
    pub goes : GoesRound condition unread taken held size causes p q first next time reported reports
    pub steps : StepsAwaiting condition unread taken held waiting files p goes.actions q
    pub asked : (place : ℕ) → WaitsInTurn waiting files p q
        (nat_lt p.limits.unfinished_bytes (unfinished_in p.slots)) (is_turn first next place)
        goes.actions place (slot_at place p.slots) (goes.served place)
    pub left : (place : ℕ) → HasTime time.second q.limits (slot_at place q.slots)

  -- so many rounds one behind the other, with other steps before each and behind the last, all through which the
  -- request waits; each round sends contents on from where the one before it stopped
  pub data RoundsAwaiting (waiting : ℕ) (files : Files) : Position A R K S → (first rounds : ℕ)
      → List HostAction → Position A R K S → Type 0 where
    no_round : {p q : Position A R K S} {late : List HostAction} {first : ℕ}
        → StepsAwaiting condition unread taken held waiting files p late q
        → RoundsAwaiting waiting files p first 0 late q
    round_more : {p r s q : Position A R K S} {early late : List HostAction} {first next rounds : ℕ}
        → StepsAwaiting condition unread taken held waiting files p early r
        → (round : RoundAwaiting waiting files r s first next)
        → RoundsAwaiting waiting files s next rounds late q
        → RoundsAwaiting waiting files p first (suc rounds) (early ++ (round.goes.actions ++ late)) q

  -- A host keeps its promise, and goes on by rounds, all through which a request waits that takes files. Of any k rounds
  -- one is the turn of each place. Then nothing stands in its way any more once there were enough.
  abbrev pub FreesWaiting : Type 0
  FreesWaiting = (p m q : Position A R K S) (early late : List HostAction) (state : State)
      (before : List Record) → IsEmpty p → OwesNone p.hub
      → RepresentsHoldingAfter condition p.hub state before (λ n. [])
      → Steps condition unread taken held p early m → (waiting : ℕ) (files : Files) (first rounds : ℕ)
      → first ≤ length m.slots → RoundsAwaiting waiting files m first rounds late q
      → IsClean condition q.hub
      → (was : KeepsPromise condition unread taken held m state before early)
      × ((k : ℕ) → length m.slots + most_sent ≤ most_sent * k
      → BecomesFree m.hub q.hub files was.owed rounds k)
