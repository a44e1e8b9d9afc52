-- A hub represents the records of all calls on it.
use Rattle.std.proofs.Common.{◌≡◌, ℕ, List, ◌++◌, IsTrue, sym, subst, append_assoc, append-nil}
use Rattle.dep_types.specs.State.{State}
use Rattle.dep_types.specs.Conditions.{Condition}
use Rattle.dep_exchange.specs.Records.{Record}
use Rattle.dep_hub.specs.Representing.{RepresentsAfter, IsClean}
use Rattle.dep_hub.specs.declared.hub.Hub.{Hub}
use Rattle.dep_exchange.specs.declared.arrived.Arrived.{Arrived}
use Rattle.dep_exchange.specs.declared.arrived.Arrived.TheVariants.{Open as StaysOpen, Closed, Cut, NoSuch}
use Rattle.dep_hub.proofs.HubLemmas.{same_represents}
use Rattle.dep_server.specs.Calls.{Comes, Call, Calls, connects, refuses, closes, arrives, none, and_then, arrival_records}

module _ {A : Type 0} (condition : A → Condition) where
  -- a store that is open now was open before a call that left it
  same_clean : (old new : Hub A) → new.store ≡ old.store → IsClean condition new → IsClean condition old
  same_clean old new same clean = subst (λ (x : A). IsTrue (condition x).is_open) same clean

  module _ (old new : Hub A) (number : ℕ) (piece : List ℕ) (moment : ℕ) where
    came_clean : (answer : Arrived) → Comes condition old new number piece moment answer → IsClean condition new → IsClean condition old
    came_clean NoSuch c clean = subst (λ (x : Hub A). IsClean condition x) c.comes.same clean
    came_clean StaysOpen c clean = c.comes.arrival.clean clean
    came_clean Closed c clean = c.comes.arrival.clean clean
    came_clean Cut c clean = c.comes.arrival.clean clean

    came_adds : (answer : Arrived) (c : Comes condition old new number piece moment answer) → IsClean condition new
        → (first : State) (before : List Record) → RepresentsAfter condition old first before
        → RepresentsAfter condition new first (before ++ arrival_records condition old new number piece moment answer c)
    came_adds NoSuch c clean first before h =
        subst (λ rs. RepresentsAfter condition new first rs) (sym (append-nil before)) (subst (λ (x : Hub A). RepresentsAfter condition x first before) (sym c.comes.same) h)
    came_adds StaysOpen c clean first before h = c.comes.arrival.adds clean first before h
    came_adds Closed c clean first before h = c.comes.arrival.adds clean first before h
    came_adds Cut c clean first before h = c.comes.arrival.adds clean first before h

  call_clean : {old new : Hub A} {more : List Record} → Call condition old new more → IsClean condition new → IsClean condition old
  call_clean {old} {new} (connects number c) clean = same_clean old new c.store clean
  call_clean {old} {new} (refuses c) clean = same_clean old new c.store clean
  call_clean {old} {new} (closes number c) clean = same_clean old new c.store clean
  call_clean {old} {new} (arrives number piece moment answer c) clean = came_clean old new number piece moment answer c clean

  call_adds : {old new : Hub A} {more : List Record} → Call condition old new more → IsClean condition new
      → (first : State) (before : List Record) → RepresentsAfter condition old first before → RepresentsAfter condition new first (before ++ more)
  call_adds (connects number c) clean first before h = c.adds first before h
  call_adds {old} {new} (refuses c) clean first before h =
      subst (λ rs. RepresentsAfter condition new first rs) (sym (append-nil before)) (same_represents condition old new c.config c.same first before h)
  call_adds (closes number c) clean first before h = c.adds first before h
  call_adds {old} {new} (arrives number piece moment answer c) clean first before h =
      came_adds old new number piece moment answer c clean first before h

  -- a hub whose store is open represents the records of all calls
  pub calls_stand : (hub last : Hub A) (records : List Record) → Calls condition hub records last → IsClean condition last
      → (first : State) (before : List Record) → RepresentsAfter condition hub first before → RepresentsAfter condition last first (before ++ records)
  calls_stand hub last records none clean first before h = subst (λ rs. RepresentsAfter condition hub first rs) (sym (append-nil before)) h
  calls_stand hub last all (and_then {records} {more} {mid} calls call) clean first before h =
      subst (λ rs. RepresentsAfter condition last first rs) (append_assoc before records more)
      (call_adds call clean first (before ++ records) (calls_stand hub mid records calls (call_clean call clean) first before h))
