use Rattle.dep_answers.proofs.BagLemmas.{shown_files}
use Rattle.dep_answers.proofs.laws.bags_show_their_files.Goals as goal

pub returns : goal.returns
returns c = shown_files
