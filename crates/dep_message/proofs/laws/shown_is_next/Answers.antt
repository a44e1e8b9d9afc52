use Rattle.dep_message.proofs.Shown.{shown_next}
use Rattle.dep_message.proofs.laws.shown_is_next.Goals as goal

pub returns : goal.returns
returns c = shown_next
