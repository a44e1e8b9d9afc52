use Rattle.dep_bag.proofs.Fronts.{stripped}
use Rattle.dep_bag.proofs.paths.stripped.Goals as goal

pub returns : goal.returns
returns c =
    stripped c.args.path.now c.in_ok-folder.folder.now c.in_ok-behind.behind.now c.args.number.now c.after-3.result
    c.in_ok-folder.ensures c.in_ok-behind.ensures c.after-3.ensures
