-- What follows from how a host goes on.
use Rattle.std.specs.Prelude.{◌≡◌, ◌⊎◌, ◌<◌, ◌≤◌, true, false, ◌+◌, length, ◌++◌, ℕ, List, [], Option, Some}
use Rattle.dep_types.specs.State.{State}
use Rattle.dep_types.specs.Conditions.{Condition}
use Rattle.dep_exchange.specs.Records.{Record}
use Rattle.dep_hub.specs.Representing.{IsClean}
use Rattle.dep_hub.specs.Holding.{RepresentsHoldingAfter}
use Rattle.dep_hub.specs.Claims.{is_content, sends_of}
use Rattle.dep_hub.specs.declared.claim.Claim.TheVariants.{Takes}
use Rattle.dep_hub.specs.declared.claim.Files.{Files}
use Rattle.dep_hub.specs.declared.rest.Behind.TheVariants.{Waits}
use Rattle.dep_hub.specs.RepresentsOwing.{behind_at}
use Rattle.dep_outbox.specs.Wires.{reported, owed_count}
use Rattle.dep_slot.specs.ConnectionStates.{is_sending}
use Rattle.dep_slot.specs.declared.connection_state.Phase.TheVariants.{Over}
use Rattle.dep_host.specs.declared.ending.Shut.{Shut}
use Rattle.dep_slot.specs.declared.slot.Slot.{Slot}
use Rattle.dep_slot.specs.declared.slot.Time.{Time}
use Rattle.dep_slot.specs.Causes.{Causes}
use Rattle.dep_slot.specs.Notes.{Note}
use Rattle.dep_host.specs.Sharing.{is_turn}
use Rattle.dep_host.specs.Actions.{Position, HostAction, AreShown, AreOutgoing, IsEmpty, slot_at, replies_to, sendings_at}
use Rattle.dep_host.specs.Hosting.{GoesRound, HostStep, Steps, WasAwaited}
use Rattle.dep_host.specs.Runs.{RepresentsBehind, KeepsPromise, OwesNone, Follows, IsClosedByNone, read_of, arrived_of, parts_of, reply_count}

-- what was read of a connection that stays open has arrived, but for what is held
abbrev pub ReadsArrive : Type 0
ReadsArrive = (first held : ℕ → List ℕ) (actions : List HostAction) (records : List Record) (number : ℕ)
    → Follows first actions records held → IsClosedByNone number actions
    → first number ++ read_of number actions ≡ arrived_of number records ++ held number

module _ {A R K S : Type 0} (condition : A → Condition) (unread : R → Option (List ℕ))
    (taken : K → Option (List ℕ)) (held : S → Option (List ℕ)) where
  -- behind all records that a hub represented it represents those of what was done, while it is open
  abbrev pub MakesRuns : Type 0
  MakesRuns = (p q : Position A R K S) (actions : List HostAction) (first : State) (records : List Record)
      (kept : ℕ → List ℕ) → Steps condition unread taken held p actions q
      → RepresentsHoldingAfter condition p.hub first records kept → IsClean condition q.hub
      → RepresentsBehind condition q.hub first records kept actions

  -- what a wire took since its connection came is what was sent to that
  abbrev pub TakesWhatIsSent : Type 0
  TakesWhatIsSent = (p q : Position A R K S) (actions : List HostAction)
      → ((sink : K) → AreShown (taken sink)) → ((spool : S) → AreShown (held spool)) → IsEmpty p
      → Steps condition unread taken held p actions q
      → (at : ℕ) (slot : Slot R K S) → slot_at at q.slots ≡ Some slot
      → reported taken held slot.wire ≡ Some (replies_to slot.connection actions)

  -- no connection is at two places
  abbrev pub SitsApart : Type 0
  SitsApart = (p q : Position A R K S) (actions : List HostAction) → IsEmpty p
      → Steps condition unread taken held p actions q
      → (a b : ℕ) (s t : Slot R K S) → slot_at a q.slots ≡ Some s → slot_at b q.slots ≡ Some t
      → s.connection ≡ t.connection → a ≡ b

  -- who is at a place was never closed
  abbrev pub SitsOpen : Type 0
  SitsOpen = (p q : Position A R K S) (actions : List HostAction) → IsEmpty p
      → Steps condition unread taken held p actions q
      → (at : ℕ) (slot : Slot R K S) → slot_at at q.slots ≡ Some slot
      → IsClosedByNone slot.connection actions

  -- a content that is still to be sent to who is at a place is being sent to it, unless it is over
  abbrev pub SendsContents : Type 0
  SendsContents = (p q : Position A R K S) (actions : List HostAction) → IsEmpty p
      → Steps condition unread taken held p actions q
      → (at : ℕ) (slot : Slot R K S) → slot_at at q.slots ≡ Some slot
      → (is_sending slot.state.phase ≡ is_content (behind_at q.hub.connections.items slot.connection))
      ⊎ (slot.state.phase ≡ Over)

  -- the archive promise, of any actions from a host without connections
  abbrev pub KeepsPromises : Type 0
  KeepsPromises = (p q : Position A R K S) (actions : List HostAction) (first : State) (before : List Record)
      → IsEmpty p → OwesNone p.hub → RepresentsHoldingAfter condition p.hub first before (λ n. [])
      → Steps condition unread taken held p actions q → IsClean condition q.hub
      → KeepsPromise condition unread taken held q first before actions

  -- A host keeps its promise, and goes on, and keeps it still. Meanwhile no more steps send a part of a content to a
  -- connection of which no item is answered than bytes were owed to it: each makes what is owed shorter.
  abbrev pub SendingEnds : Type 0
  SendingEnds = (p m q : Position A R K S) (early late : List HostAction) (first : State)
      (before : List Record) → IsEmpty p → OwesNone p.hub
      → RepresentsHoldingAfter condition p.hub first before (λ n. [])
      → Steps condition unread taken held p early m → Steps condition unread taken held m late q
      → IsClean condition q.hub
      → (was : KeepsPromise condition unread taken held m first before early)
      × (now : KeepsPromise condition unread taken held q first before (early ++ late))
      × ((number : ℕ) → reply_count number late ≡ 0
      → parts_of number late + length (now.owed number) ≤ length (was.owed number))

  -- one step after another, behind each of which a request of this connection waits that takes these files
  pub data StepsAwaiting (waiting : ℕ) (files : Files) (first : Position A R K S)
      : List HostAction → Position A R K S → Type 0 where
    waits_first : StepsAwaiting waiting files first [] first
    waits_on : {actions more : List HostAction} {p q : Position A R K S}
        → StepsAwaiting waiting files first actions p → HostStep condition unread taken held p q more
        → behind_at q.hub.connections.items waiting ≡ Waits (Takes files)
        → StepsAwaiting waiting files first (actions ++ more) q

  -- While a request waits that takes files, no content of these begins: each that is sent then was sent when it began
  -- to wait, and no item of its connection was answered since.
  abbrev pub BeginsNoneAwaited : Type 0
  BeginsNoneAwaited = (p m q : Position A R K S) (early late : List HostAction) (first : State)
      (before : List Record) → IsEmpty p → OwesNone p.hub
      → RepresentsHoldingAfter condition p.hub first before (λ n. [])
      → Steps condition unread taken held p early m → (waiting : ℕ) (files : Files)
      → StepsAwaiting waiting files m late q → IsClean condition q.hub
      → (number : ℕ) → sends_of files (behind_at q.hub.connections.items number) ≡ true
      → (sends_of files (behind_at m.hub.connections.items number) ≡ true)
      × (reply_count number late ≡ 0)

  -- a host that is shut lets nobody in, reads nothing, and stays so
  abbrev pub TakesNothing : Type 0
  TakesNothing = (p q : Position A R K S) (actions : List HostAction) (since : Shut) → p.shut ≡ Some since
      → Steps condition unread taken held p actions q → AreOutgoing actions × (q.shut ≡ Some since)

module _ {A R K S : Type 0} (condition : A → Condition) (unread : R → Option (List ℕ))
    (taken : K → Option (List ℕ)) (held : S → Option (List ℕ)) (size : S → ℕ)
    (causes : Causes R K S) where
  -- In a round in which it is its turn one step is sent of a content that is sent to who is at a place, unless
  -- bytes are owed to it, and no request waited for the content.
  abbrev pub GoesOnInTurn : Type 0
  GoesOnInTurn = (p q : Position A R K S) (first next : ℕ) (time : Time)
      (reported reports : Option (List Note))
      (g : GoesRound condition unread taken held size causes p q first next time reported reports)
      (place : ℕ) (slot : Slot R K S) → slot_at place p.slots ≡ Some slot
      → is_sending slot.state.phase ≡ true → is_turn first next place ≡ true
      → (length (sendings_at place g.actions) ≡ 1) ⊎ ((0 < owed_count size slot.wire)
      × WasAwaited condition unread taken held size causes p q g.actions slot.connection false)
