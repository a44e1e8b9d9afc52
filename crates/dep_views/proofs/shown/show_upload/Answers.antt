use Rattle.std.proofs.Common.{ap, subst, map, ◌∙◌}
use Rattle.dep_staging.specs.Found.{IsFound}
use Rattle.dep_staging.specs.declared.loading.FoundRow.TheVariants.{TimedOut, Unknown}
use Rattle.dep_tables.proofs.Chains.{reads_ok, reads_err}
use Rattle.dep_views.proofs.Shows.{gone_shown, shown_failed, upload_shown}
use Rattle.dep_views.proofs.shown.show_upload.Goals as goal

pub returns-in_ok-numbers_of-in-Live : goal.returns-in_ok-numbers_of-in-Live
returns-in_ok-numbers_of-in-Live g c = record {
  does = record {
    map = record {
      found = λ clean inside ours s are sound reported.
          upload_shown s c.args.upload c.in-Live.staged c.in_ok-numbers_of-in-Live.field-0 (subst (IsFound s c.args.upload) c.in-Live.is (c.in_ok-staged.ensures.does.map clean ours s are))
          (c.in_ok-numbers_of-in-Live.ensures.ok ∙ ap (map (λ segment. segment.number)) c.as_slice.ensures.value);
      keeps = reads_ok c.in_ok-staged.ensures.does.keeps;
    };
  };
}

pub returns-in-TimedOut : goal.returns-in-TimedOut
returns-in-TimedOut g c = record { does = gone_shown c.args.upload TimedOut (λ its e. cc) (λ s. subst (IsFound s c.args.upload) c.in-TimedOut.is) c.in_ok-staged.ensures.does }

pub returns-in-Unknown : goal.returns-in-Unknown
returns-in-Unknown g c = record { does = gone_shown c.args.upload Unknown (λ its e. cc) (λ s. subst (IsFound s c.args.upload) c.in-Unknown.is) c.in_ok-staged.ensures.does }

pub returns-in_err-staged : goal.returns-in_err-staged
returns-in_err-staged g c = record { does = shown_failed c.from_residual.ensures.0 (reads_err c.from_residual.ensures.0 c.in_err-staged.ensures.does.keeps) }

pub returns-in_err-numbers_of-in-Live : goal.returns-in_err-numbers_of-in-Live
returns-in_err-numbers_of-in-Live g c = record { does = shown_failed c.from_residual-in_err-numbers_of-in-Live.ensures.0 (reads_ok c.in_ok-staged.ensures.does.keeps) }
