use Rattle.std.proofs.Common.{◌++◌}
use Rattle.std.proofs.lemmas.Bool.Decides.{Decides-eqb}
use Rattle.std.proofs.lemmas.Slice.Eq.{strip_prefix_is}
use Rattle.dep_bag.proofs.Fronts.{behind_lent}
use Rattle.dep_bag.proofs.paths.after.Goals as goal

pub returns : goal.returns
returns c =
    behind_lent (λ rest. c.args.front.now ++ rest) c.args.text.now c.strip_prefix.result
    (strip_prefix_is Decides-eqb c.args.text.now c.args.front.now c.strip_prefix.result c.strip_prefix.ensures.cases)
