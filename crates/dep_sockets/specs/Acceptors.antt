-- What serving from a hub does, whose clients come by an acceptor.
use Rattle.std.specs.Prelude.{◌≡◌, ℕ, Bool, true, false, List, [], Option, IsNone, IsTrue}
use Rattle.dep_types.specs.State.{State}
use Rattle.dep_types.specs.Conditions.{Condition}
use Rattle.dep_exchange.specs.Records.{Record}
use Rattle.dep_exchange.specs.ArchiveCalls.{CallLog}
use Rattle.dep_hub.specs.Representing.{RepresentsAfter, IsClean, IsHonest}
use Rattle.dep_hub.specs.declared.hub.Hub.{Hub}
use Rattle.dep_slot.specs.Causes.{Causes}
use Rattle.dep_host.specs.Coming.{PollCall}
use Rattle.dep_host.specs.Actions.{HostAction, IsEmpty, position}
use Rattle.dep_host.specs.Meeting.{Met, most_events}
use Rattle.dep_slot.specs.Notes.{Note}
use Rattle.dep_host.specs.Runs.{RepresentsBehind}
use Rattle.dep_host.specs.declared.ending.Cause.TheVariants as cause
use Rattle.dep_host.specs.declared.host.Host.{Host}
use Rattle.dep_slot.specs.declared.limits.Limits.{Limits}
use Rattle.dep_host.specs.declared.serving.Ended.{Ended}
use Rattle.dep_host.specs.declared.serving.Ended.TheVariants as ended
use Rattle.dep_program.specs.declared.outcome.Outcome.{Outcome}
use Rattle.dep_program.specs.declared.outcome.Outcome.TheVariants.{Done, StoreFault, TransferFault}

-- what an acceptor shows
pub record AcceptorState (R K S : Type 0) : Type 0 where
  -- what came by it so far, each with the place that was offered for it, where it shows that
  pub given : Option (List (PollCall R K S))
  -- it lets clients in
  pub is_open : Bool
  -- no more comes
  pub is_over : Bool
  -- it was broken off: more may come, and isn't given
  pub is_cut : Bool

-- an acceptor, by what it shows
abbrev pub acceptor_state : {R K S E : Type 0} → (given : E → Option (List (PollCall R K S)))
    → (is_open is_over is_cut : E → Bool) → E → AcceptorState R K S
acceptor_state given is_open is_over is_cut acceptor = record {
  given = given acceptor;
  is_open = is_open acceptor;
  is_over = is_over acceptor;
  is_cut = is_cut acceptor;
}

module _ {A R K S L : Type 0} (condition : A → Condition) (call_log : A → CallLog)
    (unread : R → Option (List ℕ)) (taken : K → Option (List ℕ)) (held : S → Option (List ℕ))
    (size : S → ℕ) (causes : Causes R K S) (notes : L → Option (List Note)) where
  -- A host without connections over this hub, within these limits, met all that came by the acceptor, up to
  -- the end, by these actions. The store was then let go.
  pub record ServesHost (before after : AcceptorState R K S) (l m : L) (limits : Limits) (old : Hub A)
      (store : A) (actions : List HostAction) (end : Ended) : Type 0 where
    pub first : Host A R K S
    pub last : Host A R K S
    -- the log, once it was told of the acceptor, and before it was told of the end
    pub log : L
    pub last_log : L
    pub over : first.hub ≡ old
    pub within : first.limits ≡ limits
    pub unreported : IsNone first.shut
    pub empty : IsEmpty (position first)
    pub noted : notes log ≡ notes l
    pub last_noted : notes m ≡ notes last_log
    pub met : Met condition call_log unread taken held size causes notes before.given after.given
        first last log last_log actions most_events end
    pub left : store ≡ last.hub.store

  -- what serving from a hub does, by an acceptor
  pub data EndsHub (before after : AcceptorState R K S) (l m : L) (limits : Limits) (old : Hub A)
      (store : A) : List HostAction → Outcome → Type 0 where
    -- no more came
    served : {actions : List HostAction}
        → ServesHost before after l m limits old store actions ended.Events
        → IsTrue after.is_over → after.is_cut ≡ false
        → EndsHub before after l m limits old store actions Done
    -- a fault had shut the store
    shut : {actions : List HostAction}
        → ServesHost before after l m limits old store actions (ended.Shut cause.Store)
        → ¬ IsTrue (condition store).is_open
        → EndsHub before after l m limits old store actions StoreFault
    -- it was told to stop, and nobody was connected any more, or an idle time had passed
    stopped : {actions : List HostAction}
        → ServesHost before after l m limits old store actions (ended.Shut cause.Stop)
        → EndsHub before after l m limits old store actions Done
    -- the acceptor was broken off
    broken_off : {actions : List HostAction}
        → ServesHost before after l m limits old store actions ended.Events
        → after.is_cut ≡ true
        → EndsHub before after l m limits old store actions TransferFault
    -- more came than can be counted
    spent : {actions : List HostAction}
        → ServesHost before after l m limits old store actions ended.Spent
        → EndsHub before after l m limits old store actions TransferFault
    -- there was no memory to begin, which nothing shows, and the acceptor was left alone
    not_begun : store ≡ old.store → after ≡ before
        → EndsHub before after l m limits old store [] StoreFault
    -- the acceptor could not be opened
    not_let_in : store ≡ old.store → after.is_open ≡ false → after.given ≡ before.given
        → EndsHub before after l m limits old store [] TransferFault

-- What was done leads from where this hub stood to this store: behind all records that the hub stood
-- for, a hub over the store represents those of the actions.
pub record WentOn {A : Type 0} (condition : A → Condition) (old : Hub A) (store : A) (actions : List HostAction)
    : Type 0 where
  pub new : Hub A
  pub over : store ≡ new.store
  pub same_config : new.config ≡ old.config
  pub honest : IsHonest condition new → IsHonest condition old
  pub behind : IsClean condition new → (first : State) (records : List Record)
      → RepresentsAfter condition old first records
      → RepresentsBehind condition new first records (λ n. []) actions

module _ {A R K S L : Type 0} (condition : A → Condition) (call_log : A → CallLog)
    (unread : R → Option (List ℕ)) (taken : K → Option (List ℕ)) (held : S → Option (List ℕ))
    (size : S → ℕ) (causes : Causes R K S) (notes : L → Option (List Note)) where
  -- what serving from a hub does, by some actions, and where these led
  abbrev pub ServesHub : (before after : AcceptorState R K S) → (l m : L) → Limits → Hub A → (store : A)
      → Outcome → Type 0
  ServesHub before after l m limits old store outcome = (actions : List HostAction)
      × EndsHub condition call_log unread taken held size causes notes before after l m limits old
      store actions outcome
      × WentOn condition old store actions
