-- One connection, replayed over an archive that is empty at first.
use Rattle.std.specs.Prelude.{◌≡◌, ◌≤◌, ◌+◌, ℕ, Bool, List, All, Option}
use Rattle.sqlite.specs.State as db
use Rattle.dep_types.specs.State.{empty_state}
use Rattle.dep_types.specs.Config.{IsChecked}
use Rattle.dep_types.specs.declared.inlet.Inlet as inlet
use Rattle.dep_types.specs.declared.outlet.Outlet as outlet
use Rattle.dep_schema.specs.Openable.{HoldsNone}
use Rattle.dep_exchange.specs.Records.{World, first_world, Run}
use Rattle.dep_connection.specs.Turns.{ServedPiece, pieces_of, replies_of, records_of, ArePieces, with_opened, with_closed, Exchanges, EndsAs, most_reads, reads_made, reads_after, HasLastRead}
use Rattle.dep_connection.specs.Conversation.{WireState, Transfers, WireRests, outflow, wire}
use Rattle.dep_connection.specs.declared.connection.Served.{Served}
use Rattle.dep_program.specs.Gathering.{gathered_bytes, held_in}
use Rattle.dep_program.specs.Outcomes.{outcome_of, outcome_sent}
use Rattle.dep_program.specs.Setup.{program_config}
use Rattle.dep_program.specs.declared.gathered.Gathered.{Gathered}
use Rattle.dep_program.specs.declared.outcome.Outcome.{Outcome}
use Rattle.dep_program.specs.declared.outcome.Outcome.TheVariants.{Usage, StoreFault}
use Rattle.dep_application.specs.declared.replaying.Setting.{Setting}

-- the connection of this inlet to this outlet
abbrev pub wire_of : {R W : Type 0} → (g : inlet.Ghosts R) → (h : outlet.Ghosts W)
    → (held : W → List ℕ) → (has_failed : W → Bool) → R → W → WireState
wire_of g h held has_failed reader writer = wire g reader (outflow h held has_failed writer)

-- where a database had no table, and its disk has told no lie up to now
abbrev pub FromNothing : (old new : db.State) → Type 0 → Type 0
FromNothing old new P = HoldsNone old.now.trees → db.HasCleanDisk new → P

-- the same, to an outlet that gathers what its writer has taken
abbrev pub wire_gathered : {R W : Type 0} → (g : inlet.Ghosts R) → R
    → (contents : W → Option (List ℕ)) → Gathered W → WireState
wire_gathered g reader contents outlet = wire g reader (record {
  taken = gathered_bytes contents outlet;
  failures = outlet.failures;
  held = held_in outlet;
  has_failed = outlet.has_failed;
})

-- One connection of the machine, from its opening over the empty archive to its close, each piece at
-- the moment: what was read are its pieces, what was written is what the machine sends for them, and
-- it answers them as they were answered.
pub record IsReplayed (base : List ℕ) (moment : ℕ) (before after : WireState) (served : Served)
    : Type 0 where
  pub number : ℕ
  pub turns : List ServedPiece
  pub talked : World
  pub exchanges :
      Exchanges (program_config base) number (with_opened number (first_world empty_state)) turns talked
  pub run :
      Run (program_config base) empty_state (records_of number turns) (with_closed number talked)
  pub moments : All (λ t. t.moment ≡ moment) turns
  pub sizes : ArePieces turns
  pub transfers : Transfers before after (pieces_of turns) (replies_of turns)
  pub ends : EndsAs after.unread after.out.has_failed turns served
  pub reads : after.reads ≡ reads_after before.reads (reads_made turns served)
  pub few_reads : after.reads ≤ before.reads + most_reads
  pub last : HasLastRead after.last served

-- how a replay ends, and what it does
pub data Replays (base : List ℕ) (moment : ℕ) (before after : WireState) : Outcome → Type 0 where
  replayed : (served : Served) → IsReplayed base moment before after served
      → Replays base moment before after (outcome_of served)
  -- the base is refused: nothing was read or written
  refused : (IsChecked (program_config base) → ⊥) → WireRests before after
      → Replays base moment before after Usage
  -- memory ran out before the first read
  not_begun : WireRests before after → Replays base moment before after StoreFault

-- the same by its setting
abbrev pub ReplaysIn : Setting → (before after : WireState) → Outcome → Type 0
ReplaysIn setting before after outcome = Replays setting.base.now setting.moment before after outcome

-- one was replayed, and then the outlet was asked whether it gave up
abbrev pub ReplaysSent : (base : List ℕ) (moment : ℕ) (before after : WireState) (has_failed : Bool)
    → Outcome → Type 0
ReplaysSent base moment before after has_failed result = (outcome : Outcome)
    × Replays base moment before after outcome × (result ≡ outcome_sent has_failed outcome)
