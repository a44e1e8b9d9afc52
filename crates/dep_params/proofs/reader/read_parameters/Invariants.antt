use Rattle.std.proofs.Common.{◌++◌, List, length}
use Rattle.dep_params.specs.Grammar.{AreParameters, NamedValue}
use Rattle.dep_params.specs.Stored.{views}
use Rattle.dep_params.proofs.reader.read_parameters.Given as goal

abbrev pub invariant-loop-parameters : goal.invariant-loop-parameters
invariant-loop-parameters l = record {
  joined : (ps : List NamedValue) → AreParameters l.rest ps → AreParameters l.text (views l.parameters.items ++ ps);
  left : (ps : List NamedValue) → AreParameters l.text ps → (more : List NamedValue) × AreParameters l.rest more;
}

abbrev pub decreases-loop-parameters : goal.decreases-loop-parameters
decreases-loop-parameters l = length l.rest
