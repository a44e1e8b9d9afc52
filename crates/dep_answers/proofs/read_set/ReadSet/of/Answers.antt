use Rattle.std.proofs.Common.{◌∙◌, sym, ap}
use Rattle.dep_types.specs.declared.target.Method.{Method}
use Rattle.dep_answers.specs.ReadSets.{read_set_of}
use Rattle.dep_answers.proofs.read_set.ReadSet.of.Goals as goal

pub returns-in-Put : goal.returns-in-Put
returns-in-Put c =
    c.put.ensures c.args.next.now
    ∙ ap (λ (m : Method). read_set_of c.args.next.now c.args.target.now.resource m) (sym c.in-Put.is)
