use Rattle.dep_server.proofs.Refusing.{item_refused}
use Rattle.dep_server.proofs.laws.refused_items_change_nothing.Goals as goal

pub returns : goal.returns
returns c = λ x why refused. item_refused x.config x.state x.item x.moment why refused
