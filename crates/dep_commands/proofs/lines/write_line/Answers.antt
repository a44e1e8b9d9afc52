use Rattle.dep_commands.proofs.LineLemmas.{none_written}
use Rattle.dep_commands.proofs.lines.write_line.Goals as goal

pub returns-in_err-text : goal.returns-in_err-text
returns-in_err-text g c = none_written g.W.Outlet.taken g.W.Outlet.failures c.args.out.now _ c.from_residual.result c.from_residual.ensures.1
