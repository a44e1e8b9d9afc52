use Rattle.std.proofs.Common.{[], inl, sym, subst}
use Rattle.dep_program.specs.declared.outcome.Outcome.{Outcome}
use Rattle.dep_application.specs.Examinations.{ExportsInto}
use Rattle.dep_application.proofs.ExaminationLemmas.{unfilled}
use Rattle.dep_application.proofs.examination.export_into.Goals as goal

pub returns-in-Ok : goal.returns-in-Ok
returns-in-Ok g c =
    let run = c.export_object.ensures in
    record {
      gives = (run.gives.0, λ clean s at. inl (run.gives.2 clean s at));
      still = run.still;
    }

pub returns-in-Err : goal.returns-in-Err
returns-in-Err g c = record {
  gives = ([], λ clean s at. subst (λ (o : Outcome). ExportsInto s c.args.object [] o) (sym c.without_folder.ensures) (unfilled s c.args.object c.kind.result));
  still = record {
    honest_before = λ honest. honest;
    open_before = λ is_open. is_open;
    stays = λ is_open s at. at;
    stop = λ honest s at. g.met.S.BagSource.settled c.args.source.now s at;
  };
}
