use Rattle.std.proofs.Common.{◌≡◌, drop, find}
use Rattle.std.specs.Str.{str_eq_ignore_ascii_case}
use Rattle.dep_params.proofs.disposition.Disposition.parameter.Given as goal

abbrev pub invariant-loop-parameter : goal.invariant-loop-parameter
invariant-loop-parameter l =
    find (λ p. str_eq_ignore_ascii_case p.name l.name) l.self.parameters
    ≡ find (λ p. str_eq_ignore_ascii_case p.name l.name) (drop l.parameter-index l.self.parameters)
