use Rattle.dep_answers.proofs.Present.{shown_if_there}
use Rattle.dep_answers.proofs.laws.what_is_there_is_shown.Goals as goal

pub returns : goal.returns
returns c = shown_if_there
