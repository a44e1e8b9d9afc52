use Rattle.dep_hub.specs.Representing.{ServesAs}
use Rattle.dep_commands.proofs.ServeLemmas.{ProgressLine}
use Rattle.dep_commands.proofs.serve.serve_on.Given as goal

abbrev pub invariant-loop : goal.invariant-loop
invariant-loop g l = record {
  call : goal.C-IsAlwaysCallable g l.clock;
  goes : ServesAs g.A.Archive.condition l.fn.hub l.hub;
  served : ProgressLine g.A.Archive.condition (goal.C-step g) l.fn.clock l.fn.hub l.clock l.hub l.counter;
}
