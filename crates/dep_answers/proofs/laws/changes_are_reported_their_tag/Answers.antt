use Rattle.dep_answers.proofs.Changed.{reported_tag}
use Rattle.dep_answers.proofs.laws.changes_are_reported_their_tag.Goals as goal

pub returns : goal.returns
returns c = reported_tag
