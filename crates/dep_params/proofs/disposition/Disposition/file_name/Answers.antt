use Rattle.std.proofs.Common.{◌≡◌, ◌∙◌, ℕ, List, true, sym, ap}
use Rattle.std.proofs.lemmas.Str.{IsUtf8-from_is_utf8}
use Rattle.std.specs.Str.{is_utf8}
use Rattle.dep_types.specs.Names.{is_good_name}
use Rattle.dep_params.specs.Names.{IsReportedName}
use Rattle.dep_params.specs.declared.disposition.ParamFault.TheVariants.{NoName, Memory}
use Rattle.dep_params.proofs.NameFaults.{fails_by, fault_by}
use Rattle.dep_params.proofs.Runs.{and_both, not_both}
use Rattle.dep_params.proofs.ReportedNames.{same_name}
use Rattle.dep_params.proofs.disposition.Disposition.file_name.Goals as goal

utf8_of : (name : List ℕ) → is_good_name name ≡ true → is_utf8 name ≡ true
utf8_of name good = (and_both _ _ (and_both _ _ (and_both _ _ (and_both _ _ good).0).0).0).1

pub returns-then-not-is_good_name-clause-unnamed : goal.returns-then-not-is_good_name-clause-unnamed
returns-then-not-is_good_name-clause-unnamed c = λ h name is.
    let reported = c.in_ok-name.name.items in
    let same : name ≡ reported = same_name c.args.self.now name reported is.reported c.in_ok-name.ensures in
    let good : is_good_name c.deref.result.now ≡ true = ap (λ (n : List ℕ). is_good_name n) (c.deref.ensures.value ∙ sym same) ∙ is.good in
    not_both _ (c.is_good_name.ensures ∙ good) c.if-not-is_good_name.true

pub returns-clause-unnamed : goal.returns-clause-unnamed
returns-clause-unnamed c = λ h name is.
    let reported = c.in_ok-name.name.items in
    let good : is_good_name reported ≡ true = ap (λ (n : List ℕ). is_good_name n) (sym c.deref.ensures.value) ∙ sym c.is_good_name.ensures ∙ c.if-not-is_good_name.false in
    let ok = c.in-Err.ensures.succeeds (IsUtf8-from_is_utf8 reported (utf8_of reported good)) in
    cc ok

pub returns-in_err-name-clause-unnamed : goal.returns-in_err-name-clause-unnamed
returns-in_err-name-clause-unnamed c = λ h name is.
    let fails = fails_by _ (IsReportedName c.args.self.now) c.in_err-name.field-0.0 NoName c.from_residual.ensures.1 c.in_err-name.ensures h in
    fails name is.reported

pub returns-in_err-name-clause-faults : goal.returns-in_err-name-clause-faults
returns-in_err-name-clause-faults c =
    fault_by _ (IsReportedName c.args.self.now) c.in_err-name.field-0.0 c.from_residual.ensures.1 c.in_err-name.ensures

pub returns-in_err-name-clause-wanted : goal.returns-in_err-name-clause-wanted
returns-in_err-name-clause-wanted c =
    fails_by _ (IsReportedName c.args.self.now) c.in_err-name.field-0.0 Memory c.from_residual.ensures.1 c.in_err-name.ensures
