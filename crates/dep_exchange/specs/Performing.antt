-- What a step leaves of an archive that performed it.
use Rattle.dep_types.specs.Conditions.{Condition, Represents}
use Rattle.dep_answers.specs.Steps.{Stepped}
use Rattle.dep_answers.specs.Performing.{IsReady}
use Rattle.dep_answers.specs.declared.performed.Performed.{Performed}

-- the archive represents the state that the step leaves, and what is ready is its reply
pub record Performs (stepped : Stepped) (new : Condition) (p : Performed) : Type 0 where
  pub state : Represents new stepped.state
  pub ready : IsReady stepped p
