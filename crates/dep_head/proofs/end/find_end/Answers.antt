use Rattle.std.proofs.Common.{sym}
use Rattle.dep_head.proofs.EndFinds.{found_end, found_none}
use Rattle.dep_head.proofs.end.find_end.Goals as goal

pub returns-in-Some : goal.returns-in-Some
returns-in-Some c = sym (found_end c.args.text.now c.in-Some.start c.in-Some.ensures)

pub returns-in-None : goal.returns-in-None
returns-in-None c = sym (found_none c.args.text.now c.in-None.ensures)
