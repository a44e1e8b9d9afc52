use Rattle.std.proofs.Common.{[], ◌++◌, refl, sym, subst, ◌∙◌}
use Rattle.std.proofs.KnownBytes.{Appends-nil, Appends-trans, Keeps-refl}
use Rattle.dep_bag.specs.Bag.{payload}
use Rattle.dep_bag.specs.Giving.{AreFilesOf, tag_transcript}
use Rattle.dep_bag.specs.ExportFaults.{export_fault_for}
use Rattle.dep_bag.proofs.GivenParts.{cause_later, cause_passed, err_keeps, given_front, ours_there}
use Rattle.dep_bag.proofs.Still.{still_then}
use Rattle.dep_bag.proofs.Exported.{found_view, none_found, are_payload, tags_exported, all_exported, unseen_cause, unseen_exported}
use Rattle.dep_bag.proofs.exporting.export.Goals as goal

-- the source failed
pub returns-in_err-view : goal.returns-in_err-view
returns-in_err-view g c =
    let answered = c.from_residual.result in
    let fault = c.in_err-view.field-0.0 in
    record {
      gives = ([], Appends-nil (g.K.Outlet.taken c.args.sink.now), λ clean s at. unseen_exported fault answered c.from_residual.ensures.1 s c.args.object);
      absent = λ is. Keeps-refl (g.K.Outlet.taken c.args.sink.now);
      cause = unseen_cause fault answered c.from_residual.ensures.1 (g.K.Outlet.failures c.args.sink.now);
      kept = λ clean s at. err_keeps answered (export_fault_for fault) _ c.from_residual.ensures.1;
      still = c.in_err-view.ensures.still;
    }

-- the object is not there
pub returns-in_default : goal.returns-in_default
returns-in_default g c = record {
  gives = ([], Appends-nil (g.K.Outlet.taken c.args.sink.now), λ clean s at. (none_found s c.args.object (sym c.in_default.is ∙ c.in_ok-view.ensures.ok clean s at), refl));
  absent = λ is. Keeps-refl (g.K.Outlet.taken c.args.sink.now);
  cause = refl {a = g.K.Outlet.failures c.args.sink.now};
  kept = λ clean s at. tt;
  still = c.in_ok-view.ensures.still;
}

-- a tag file could not be given
pub returns-in_err-give_tag_files : goal.returns-in_err-give_tag_files
returns-in_err-give_tag_files g c =
    let gave = c.in_err-give_tag_files.ensures in
    let answered = c.from_residual-in_err-give_tag_files.result in
    let fault = c.in_err-give_tag_files.field-0.0 in
    let failures = g.K.Outlet.failures c.args.sink.now in
    record {
      gives = (
        gave.given,
        gave.appends,
        λ clean s at. let v = found_view s c.args.object c.in-Some.view (sym c.in-Some.is ∙ c.in_ok-view.ensures.ok clean s at) in
            tags_exported s c.args.object c.in-Some.view v fault gave.given answered gave.is c.from_residual-in_err-give_tag_files.ensures.1,
      );
      absent = λ is. absurd (ours_there answered fault c.from_residual-in_err-give_tag_files.ensures.1 (given_front fault (tag_transcript c.in-Some.view) gave.given gave.is).0 is);
      cause = cause_passed failures failures (g.K.Outlet.failures c.give_tag_files.new.sink) answered fault refl gave.cause c.from_residual-in_err-give_tag_files.ensures.1;
      kept = λ clean s at. err_keeps answered fault _ c.from_residual-in_err-give_tag_files.ensures.1;
      still = c.in_ok-view.ensures.still;
    }

-- the payload is given as far as it is
pub returns : goal.returns
returns g c =
    let tags = c.in_ok-give_tag_files.ensures in
    let more = c.give_payload.ensures in
    let n = c.args.object in
    record {
      gives = (
        tags.given ++ more.given,
        Appends-trans (g.K.Outlet.taken c.args.sink.now) (g.K.Outlet.taken c.give_tag_files.new.sink) (g.K.Outlet.taken c.give_payload.new.sink) tags.given more.given tags.appends more.appends,
        λ clean s at. let before = more.still.honest_before clean in
            let v = found_view s n c.in-Some.view (sym c.in-Some.is ∙ c.in_ok-view.ensures.ok before s at) in
            all_exported s n c.in-Some.view v tags.given more.given c.give_payload.result tags.is
            (more.is clean s (c.in_ok-view.ensures.kept before s at) (payload v.object)
            (subst (λ rows. AreFilesOf s rows (payload v.object)) (sym c.as_slice.ensures) (are_payload s n c.in-Some.view v))),
      );
      absent = λ is. absurd (more.there is);
      cause = cause_later (g.K.Outlet.failures c.args.sink.now) (g.K.Outlet.failures c.give_tag_files.new.sink) (g.K.Outlet.failures c.give_payload.new.sink) c.give_payload.result tags.cause more.cause;
      kept = λ clean s at. more.kept clean s (c.in_ok-view.ensures.kept (more.still.honest_before clean) s at);
      still = still_then (g.S.BagSource.condition c.args.source.now) (g.S.BagSource.condition c.view.new.self) (g.S.BagSource.condition c.give_payload.new.source)
          c.in_ok-view.ensures.kept c.in_ok-view.ensures.still more.still;
    }
