use Rattle.dep_message.proofs.OneReading.{one_spelling}
use Rattle.dep_message.proofs.laws.one_spelling.Goals as goal

pub returns : goal.returns
returns c = one_spelling
