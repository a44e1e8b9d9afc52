use Rattle.std.proofs.Common.{rules, ◌≡◌, ℕ, List, Option, None, Some, codes, sym, refl, subst, MatchResult}
use Rattle.std.specs.Result.{IsErrAnd}
use Rattle.dep_params.specs.Grammar.{parameter_value}
use Rattle.dep_params.specs.Failing.{FailsToName}
use Rattle.dep_params.specs.Names.{IsPreferredName, IsReportedName}
use Rattle.dep_params.specs.declared.disposition.ParamFault.TheVariants.{Memory}
use Rattle.dep_params.proofs.NameFaults.{wanted}
use Rattle.dep_params.proofs.disposition.Disposition.reported_name.Goals as goal

pub returns-in_err-to_vec-in-Some-parameter : goal.returns-in_err-to_vec-in-Some-parameter
returns-in_err-to_vec-in-Some-parameter c =
    let extended : parameter_value (codes "filename*") c.args.self.now ≡ None = sym c.in-None.ensures in
    let plain : parameter_value (codes "filename") c.args.self.now ≡ Some c.in-Some-parameter.name.now = sym c.in-Some-parameter.ensures in
    let refused : IsErrAnd c.from_residual.result (λ e. e ≡ Memory) = search rules in
    wanted _ (λ name. IsReportedName c.args.self.now name.items) (IsReportedName c.args.self.now) c.in-Some-parameter.name.now refused (rw (extended, plain) refl)

pub returns-in-Some : goal.returns-in-Some
returns-in-Some c =
    let plain = parameter_value (codes "filename") c.args.self.now in
    subst (λ (text : Option (List ℕ)). MatchResult c.decoded.result (λ name. IsPreferredName text plain name.items) (FailsToName (IsPreferredName text plain)))
    c.in-Some.ensures c.decoded.ensures
