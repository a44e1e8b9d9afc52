use Rattle.std.proofs.Common.{rules, subst}
use Rattle.dep_types.specs.Base.{IsBase}
use Rattle.dep_types.proofs.config.Config.check.Goals as goal

pub returns-clause-checked : goal.returns-clause-checked
returns-clause-checked c = record {
  base = subst IsBase c.as_str.ensures c.in_ok-check_base.ensures.kept;
  limits = c.has_limits.ensures.0 c.if-not-has_limits.false;
}

pub returns-then-not-has_limits-clause-limit : goal.returns-then-not-has_limits-clause-limit
returns-then-not-has_limits-clause-limit c = λ _. (subst IsBase c.as_str.ensures c.in_ok-check_base.ensures.kept, search rules)

pub returns-in_err-check_base-clause-limit : goal.returns-in_err-check_base-clause-limit
returns-in_err-check_base-clause-limit c = search rules

pub returns-then-not-has_limits-clause-base : goal.returns-then-not-has_limits-clause-base
returns-then-not-has_limits-clause-base c = search rules

pub returns-in_err-check_base-clause-base : goal.returns-in_err-check_base-clause-base
returns-in_err-check_base-clause-base c = search rules
