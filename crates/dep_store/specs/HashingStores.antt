-- How a store that hashes segments ahead stands, as those who serve it see it.
use Rattle.std.specs.Prelude.{Bool, None}
use Rattle.sqlite.specs.State as db
use Rattle.sqlite.specs.Held.{state}
use Rattle.sqlite.specs.Tree.{Trees}
use Rattle.sqlite_trees.specs.declared.store.Store.{Ghosts}
use Rattle.dep_types.specs.Conditions.{Condition}
use Rattle.dep_types.specs.State.{State}
use Rattle.dep_views.specs.Ahead.{IsAhead}
use Rattle.dep_views.specs.declared.ahead.WorkAhead.{WorkAhead}
use Rattle.dep_transactions.specs.States.{StoreRepresents, IsLeftAs}
use Rattle.dep_exchange.specs.ArchiveCalls.{CallLog}
use Rattle.dep_store.specs.LogCopies.{has_call}
use Rattle.dep_store.specs.declared.archive.HashingStore.{HashingStore}

-- the database represents the state, and what was hashed is what was received there
pub record KeepsHashed (d : db.State) (ahead : WorkAhead) (s : State) : Type 0 where
  pub represents : StoreRepresents d s
  pub hashed : IsAhead s ahead

-- what its database shows, beside what was hashed
abbrev pub shown_with_hashes : db.State → WorkAhead → Condition
shown_with_hashes d ahead = record {
  is_open = d.is_open;
  is_honest = db.HasCleanDisk d;
  keeps = KeepsHashed d ahead;
  Image = Trees;
  may_leave = d.may_leave;
  is_left_as = IsLeftAs;
  open_if_kept = λ s keeps. keeps.represents.represents.is_open;
  sound_if_kept = λ s keeps. keeps.represents.means.sound;
}

-- how the store stands, with what was hashed
abbrev pub condition_with_hashes : {S : Type 0} → (g : Ghosts S) → HashingStore S → Condition
condition_with_hashes g archive = shown_with_hashes (state g archive.store) archive.ahead

-- what its database says of its answers: it shows nothing of what it is asked for
abbrev pub reported_by : db.State → CallLog
reported_by d = record { archive_calls = None; is_busy = d.in_transaction; faults = d.faults }

abbrev pub call_log_of : {S : Type 0} → (g : Ghosts S) → HashingStore S → CallLog
call_log_of g archive = reported_by (state g archive.store)

-- a commit of its work ahead is due while a copy of its log is
abbrev pub may_commit : {S : Type 0} → HashingStore S → Bool
may_commit archive = has_call archive.log_copy
