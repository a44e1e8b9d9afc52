use Rattle.dep_message.proofs.EverySpelling.{every_spelling}
use Rattle.dep_message.proofs.laws.every_stream_is_spelled.Goals as goal

pub returns : goal.returns
returns c = every_spelling
