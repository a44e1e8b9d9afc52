-- A replay is a run of one connection.
use Rattle.std.proofs.Common.{◌≡◌, ℕ, Bool, true, false, List, [], ◌∷◌, ◌++◌, refl, subst}
use Rattle.std.specs.Prelude.{All}
use Rattle.std.proofs.lemmas.List.Elements.{All-nil, All-cons}
use Rattle.std.specs.List.{FoldsTo}
use Rattle.sqlite.specs.State as db
use Rattle.sqlite.specs.Steps.{IsEmpty}
use Rattle.sqlite.specs.Effect.{IsDatabase}
use Rattle.dep_schema.specs.Openable.{HoldsNone}
use Rattle.dep_types.specs.Conditions.{Condition}
use Rattle.dep_types.specs.State.{State, empty_state}
use Rattle.dep_types.specs.Config.{IsChecked}
use Rattle.dep_types.specs.declared.config.Config.{Config}
use Rattle.dep_exchange.specs.Records.{World, Record, Arrive, stopped, first_world, Run, begins, goes_on, stops, breaks}
use Rattle.dep_hub.specs.Representing.{RepresentsAt, RepresentsAfter, IsHonest}
use Rattle.dep_connection.specs.Turns.{ServedPiece, with_opened, Exchanges}
use Rattle.dep_connection.specs.Conversation.{Outflow, WireState, Session, WireRests, Converses, ConversesOver}
use Rattle.std.proofs.KnownBytes.{Keeps-refl}
use Rattle.dep_connection.proofs.TalkLemmas.{conversation_run}
use Rattle.dep_connection.specs.declared.connection.Served.{Served}
use Rattle.dep_connection.specs.declared.connection.Served.TheVariants.{Ended, Closed, Unserved, ReadFault, WriteFault, Bound}
use Rattle.dep_program.specs.Setup.{program_config}
use Rattle.dep_program.specs.Outcomes.{outcome_of, outcome_sent}
use Rattle.dep_hub.specs.declared.faults.HubFault.TheVariants as hub
use Rattle.dep_application.specs.Starting.{outcome_of_start}
use Rattle.dep_application.specs.declared.starting.StartFault.{StartFault}
use Rattle.dep_application.specs.declared.starting.StartFault.TheVariants as fault
use Rattle.dep_application.specs.Replays.{IsReplayed, Replays, replayed, refused, not_begun}
use Rattle.dep_program.specs.declared.outcome.Outcome.{Outcome}
use Rattle.dep_program.specs.declared.outcome.Outcome.TheVariants.{Done, Usage, NoSuchObject, StoreFault, TransferFault, Damaged}

-- a replay is done only where its outlet hasn't given up
pub done_open : (has_failed : Bool) (outcome : Outcome) → outcome_sent has_failed outcome ≡ Done → has_failed ≡ false
done_open false outcome e = refl
done_open true Done e = cc
done_open true Usage e = cc
done_open true NoSuchObject e = cc
done_open true StoreFault e = cc
done_open true TransferFault e = cc
done_open true Damaged e = cc

not_nil : (records : List Record) (r : Record) → records ++ r ∷ [] ≡ [] → ⊥
not_nil [] r e = cc
not_nil (x ∷ records) r e = cc

not_nil_more : (records : List Record) (r q : Record) → records ++ r ∷ q ∷ [] ≡ [] → ⊥
not_nil_more [] r q e = cc
not_nil_more (x ∷ records) r q e = cc

-- after no records the machine is at its first state
pub world_at_first : {config : Config} {first : State} {records : List Record} {w : World} → Run config first records w → records ≡ [] → w ≡ first_world first
world_at_first begins e = refl
world_at_first (goes_on {records} {event} {sent} r h) e = absurd (not_nil records (record { event = event; sent = sent }) e)
world_at_first (stops {records} r) e = absurd (not_nil records stopped e)
world_at_first (breaks {records} {n} {moment} {piece} {sent} found r a shut l) e =
    absurd (not_nil_more records (record { event = Arrive n piece moment; sent = sent }) stopped e)

module _ {A : Type 0} (condition : A → Condition) (may_commit : A → Bool) (shown : Outflow → Type 0) {C : Type 0} (ticks : C → ℕ → C → Type 0) (moment : ℕ) (reports : C → Type 0)
    (same : (before after : C) (m : ℕ) → reports before → ticks before m after → (m ≡ moment) × reports after) where
  -- a clock that tells one moment tells it at each turn
  all_at : (turns : List ServedPiece) (clock last : C) → reports clock → FoldsTo (λ before (t : ServedPiece) after. ticks before t.moment after) clock turns last
      → All (λ (t : ServedPiece). t.moment ≡ moment) turns
  all_at [] clock last p f = All-nil (λ (t : ServedPiece). t.moment ≡ moment)
  all_at (t ∷ turns) clock last p f =
      let s = same clock f.0 t.moment p f.1 in
      All-cons (λ (u : ServedPiece). u.moment ≡ moment) t turns s.0 (all_at turns f.0 last s.1 f.2)

  module _ (base : List ℕ) (before after : Session A C) (first : RepresentsAfter condition before.hub empty_state [])
      (honest : IsHonest condition after.hub) (given : before.hub.config ≡ program_config base) (reported : reports before.clock) where
    replays : (end : Served) → Converses condition may_commit shown ticks before after end → IsReplayed base moment before.wire after.wire end
    replays end v =
        let fresh = world_at_first first.run refl in
        let answers = v.answers honest (first_world empty_state) (subst (λ w. RepresentsAt condition before.hub w) fresh first.at) in
        let exchanges : Exchanges (program_config base) v.number (with_opened v.number (first_world empty_state)) v.turns answers.talked =
        subst (λ (x : Config). Exchanges x v.number (with_opened v.number (first_world empty_state)) v.turns answers.talked) given answers.exchanges in
        record {
          number = v.number;
          turns = v.turns;
          talked = answers.talked;
          exchanges = exchanges;
          run = conversation_run (program_config base) v.number empty_state [] (first_world empty_state) answers.talked v.turns begins exchanges;
          moments = all_at v.turns before.clock after.clock reported v.moments;
          sizes = v.sizes;
          transfers = v.transfers;
          ends = v.ends;
          reads = v.reads;
          few_reads = v.few_reads;
          last = v.last;
        }

    pub comes_to : (end : Served) → ConversesOver condition may_commit shown ticks before after end → Replays base moment before.wire after.wire (outcome_of end)
    comes_to Unserved v = not_begun v.rests
    comes_to Ended v = replayed Ended (replays Ended v)
    comes_to Closed v = replayed Closed (replays Closed v)
    comes_to ReadFault v = replayed ReadFault (replays ReadFault v)
    comes_to WriteFault v = replayed WriteFault (replays WriteFault v)
    comes_to Bound v = replayed Bound (replays Bound v)

pub rests_same : (at : WireState) → WireRests at at
rests_same at = record { pieces = Keeps-refl at.unread; reads = refl; last = refl; out = refl }

-- no hub was made for it: nothing was read or written
pub not_replayed : (base : List ℕ) (moment : ℕ) (at : WireState) (why : StartFault) → (why ≡ fault.Hub hub.Config → ¬ IsChecked (program_config base))
    → Replays base moment at at (outcome_of_start why)
not_replayed base moment at (fault.Hub hub.Config) refuses = refused (refuses refl) (rests_same at)
not_replayed base moment at (fault.Hub hub.Memory) refuses = not_begun (rests_same at)
not_replayed base moment at (fault.Open its) refuses = not_begun (rests_same at)

-- a new database in memory has no table
pub empty_holds_none : (d : db.State) → IsEmpty d → HoldsNone d.now.trees
empty_holds_none d e = subst (λ schema. IsDatabase (record { schema = schema; trees = d.now.trees })) e.2 (e.1 e.0.is_open).0
