-- How a run ends; the exit status of each outcome, and its line on standard error.
use Rattle.std.specs.Prelude.{ℕ, List, Option, Some, None, Bool, true, codes}
use Rattle.dep_connection.specs.declared.connection.Served.{Served}
use Rattle.dep_connection.specs.declared.connection.Served.TheVariants.{Ended, Closed, Unserved, ReadFault, WriteFault, Bound}
use Rattle.dep_program.specs.declared.outcome.Outcome.{Outcome}
use Rattle.dep_program.specs.declared.outcome.Outcome.TheVariants.{Done, Usage, NoSuchObject, StoreFault, TransferFault, Damaged}

-- the exit status
abbrev pub status_of : Outcome → ℕ
status_of Done = 0
status_of Usage = 1
status_of NoSuchObject = 1
status_of StoreFault = 2
status_of TransferFault = 3
status_of Damaged = 4

-- the line on standard error, where there is one
abbrev pub outcome_line : Outcome → Option (List ℕ)
outcome_line Done = None
outcome_line Usage = Some (codes "usage: swordd replay MOMENT BASE | serve PORT DB COUNT | export DB ID DIR | audit DB")
outcome_line NoSuchObject = Some (codes "swordd: no such object")
outcome_line StoreFault = Some (codes "swordd: store fault")
outcome_line TransferFault = Some (codes "swordd: input or output fault")
outcome_line Damaged = None

-- what the program says of a connection
abbrev pub outcome_of : Served → Outcome
outcome_of Ended = Done
outcome_of Closed = Done
outcome_of Unserved = StoreFault
outcome_of ReadFault = TransferFault
outcome_of WriteFault = TransferFault
outcome_of Bound = TransferFault

-- the same, once the outlet was asked whether it gave up
abbrev pub outcome_sent : (has_failed : Bool) → Outcome → Outcome
outcome_sent true Done = TransferFault
outcome_sent has_failed outcome = outcome
