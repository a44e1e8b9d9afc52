-- How a run ends where no more is served.
use Rattle.std.specs.Prelude.{Bool, true, false}
use Rattle.dep_host.specs.declared.ending.Cause.TheVariants.{Store, Stop}
use Rattle.dep_host.specs.declared.serving.Ended.{Ended}
use Rattle.dep_host.specs.declared.serving.Ended.TheVariants.{Events, Shut, Spent}
use Rattle.dep_program.specs.declared.outcome.Outcome.{Outcome}
use Rattle.dep_program.specs.declared.outcome.Outcome.TheVariants.{Done, StoreFault, TransferFault}

-- No more comes, and nothing was broken off; or it was, or more came than can be counted; or a fault
-- has shut the store; or it was told to stop.
abbrev pub outcome_at : Ended → (is_cut : Bool) → Outcome
outcome_at Events false = Done
outcome_at Events true = TransferFault
outcome_at Spent is_cut = TransferFault
outcome_at (Shut Store) is_cut = StoreFault
outcome_at (Shut Stop) is_cut = Done
