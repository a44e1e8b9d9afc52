use Rattle.dep_message.proofs.OneReading.{one_request}
use Rattle.dep_message.proofs.laws.one_request.Goals as goal

pub returns : goal.returns
returns c = one_request
