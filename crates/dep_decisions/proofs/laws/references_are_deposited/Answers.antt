use Rattle.dep_decisions.proofs.Deposited.{deposited}
use Rattle.dep_decisions.proofs.laws.references_are_deposited.Goals as goal

pub returns : goal.returns
returns c config s op sound accepted refs read i r at = deposited config s op refs read r i sound accepted at
