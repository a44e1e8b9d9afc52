use Rattle.dep_answers.proofs.WrittenOut.{changed_is}
use Rattle.dep_answers.proofs.laws.metadata_of_example.Goals as goal

pub returns : goal.returns
returns c = changed_is
