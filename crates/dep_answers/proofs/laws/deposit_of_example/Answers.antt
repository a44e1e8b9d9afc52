use Rattle.dep_answers.proofs.WrittenOut.{created_is}
use Rattle.dep_answers.proofs.laws.deposit_of_example.Goals as goal

pub returns : goal.returns
returns c = created_is
