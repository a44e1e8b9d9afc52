use Rattle.dep_answers.proofs.WrittenOut.{shown_is}
use Rattle.dep_answers.proofs.laws.upload_of_example.Goals as goal

pub returns : goal.returns
returns c = shown_is
