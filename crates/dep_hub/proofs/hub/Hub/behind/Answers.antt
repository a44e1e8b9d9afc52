use Rattle.std.proofs.Common.{sym, ap, ◌∙◌}
use Rattle.dep_hub.specs.Numbers.{place_of_number}
use Rattle.dep_hub.proofs.BehindLemmas.{behind_none, behind_some}
use Rattle.dep_hub.proofs.hub.Hub.behind.Goals as goal

pub returns-in-Some : goal.returns-in-Some
returns-in-Some g c =
    sym (behind_some c.args.connection c.in-Some.i c.args.self.now.connections.items c.index.result.now
    (ap (place_of_number c.args.connection) (sym c.as_slice.ensures.value) ∙ sym c.in-Some.ensures.value) c.index.ensures)

pub returns-in-None : goal.returns-in-None
returns-in-None g c =
    sym (behind_none c.args.connection c.args.self.now.connections.items
    (ap (place_of_number c.args.connection) (sym c.as_slice.ensures.value) ∙ (sym c.index_among.ensures.value ∙ c.in-None.is)))
