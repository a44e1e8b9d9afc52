use Rattle.std.proofs.Common.{◌≡◌, ◌∙◌, Err, ap, sym, subst}
use Rattle.dep_program.specs.declared.outcome.Outcome.{Outcome}
use Rattle.dep_program.specs.declared.outcome.Outcome.TheVariants.{Done, NoSuchObject}
use Rattle.dep_commands.specs.Exports.{Exports}
use Rattle.dep_commands.specs.Reporting.{BlamesTransfer}
use Rattle.dep_commands.proofs.Exported.{gives, only_absent, never_done, blames}
use Rattle.dep_commands.proofs.ReportLemmas.{no_transfer}
use Rattle.dep_commands.proofs.exporting.export_object.Goals as goal

done_is_there : Done ≡ NoSuchObject → ⊥
done_is_there said = cc said

pub returns-in-Ok : goal.returns-in-Ok
returns-in-Ok g c =
    let did = c.in-Ok.ensures in
    record {
      gives = did.gives;
      absent = λ said. absurd (done_is_there said);
      blames = no_transfer _ _ Done tt did.cause;
      kept = λ done. did.kept;
      still = did.still;
    }

pub returns-in-Err : goal.returns-in-Err
returns-in-Err g c =
    let did = c.in-Err.ensures in
    let fault = c.in-Err.fault in
    let outcome = c.outcome_of.result in
    let is = c.outcome_of.ensures in
    record {
      gives = (did.gives.0, did.gives.1, λ clean s represents. subst (λ (o : Outcome). Exports s c.args.object did.gives.0 o) (sym is) (gives s c.args.object did.gives.0 fault (did.gives.2 clean s represents)));
      absent = λ said. did.absent (ap Err (only_absent fault (sym is ∙ said)));
      blames = subst (λ (o : Outcome). BlamesTransfer (g.K.Outlet.failures c.args.sink.now) (g.K.Outlet.failures c.export.new.sink) o) (sym is) (blames _ _ fault did.cause);
      kept = λ done. absurd (never_done fault (sym is ∙ done));
      still = did.still;
    }
