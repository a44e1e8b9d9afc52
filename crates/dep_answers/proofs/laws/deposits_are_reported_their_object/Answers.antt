use Rattle.dep_answers.proofs.Made.{reported_object}
use Rattle.dep_answers.proofs.laws.deposits_are_reported_their_object.Goals as goal

pub returns : goal.returns
returns c = reported_object
