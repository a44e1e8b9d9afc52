use Rattle.dep_answers.proofs.Sources.{named_source}
use Rattle.dep_answers.proofs.laws.contents_are_of_the_named_file.Goals as goal

pub returns : goal.returns
returns c = named_source
