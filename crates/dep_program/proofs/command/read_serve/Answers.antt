use Rattle.std.proofs.Common.{arith}
use Rattle.dep_program.proofs.CommandLemmas.{number_fits}
use Rattle.dep_program.proofs.command.read_serve.Goals as goal

pub overflow_cast-options : goal.overflow_cast-options
overflow_cast-options c = omega (arith, number_fits c.as_str.result.now 65535 _ c.in_ok-number_in.ensures)
