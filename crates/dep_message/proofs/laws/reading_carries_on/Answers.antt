use Rattle.dep_message.proofs.Reading.{reads_more}
use Rattle.dep_message.proofs.laws.reading_carries_on.Goals as goal

pub returns : goal.returns
returns c = reads_more
