use Rattle.std.proofs.Common.{Result, IfOk, sym, ap, subst, refl, ◌∙◌}
use Rattle.std.specs.Result.{result_unwrap_or}
use Rattle.std.specs.declared.alloc.AllocError.{AllocError}
use Rattle.dep_hub.specs.Looks.{SeesHead, ShowsItem}
use Rattle.dep_hub.specs.declared.keeping.Look.{Look}
use Rattle.dep_hub.specs.declared.keeping.Looks.{Looks}
use Rattle.dep_message.specs.declared.message.Message.{Message}
use Rattle.dep_hub.specs.declared.keeping.Look.TheVariants.{Kept}
use Rattle.dep_hub.specs.declared.rest.Behind.TheVariants.{Prepared}
use Rattle.dep_hub.proofs.LookLemmas.{shows_next}
use Rattle.dep_hub.proofs.keeping.look_at_next.Goals as goal

pub returns : goal.returns
returns c =
    let is = c.unwrap_or.ensures ∙ ap (λ (seen : Result Look AllocError). result_unwrap_or seen (Kept Prepared)) c.and-seen.ensures in
    record {
      same = c.preview.ensures.stays;
      shows = λ cs busy. subst (λ (look : Look). ShowsItem cs c.args.intake.now c.args.was look) (sym is)
          (shows_next c.args.intake.now c.args.was c.args.is_busy c.requires.ready
          (λ (before after : Looks) (m : Message). IfOk after.look (SeesHead before.was before.is_busy m.head)) _ c.preview.new.by (λ (l : Looks). l.look) refl (λ m s. s) c.requires.asked c.preview.result c.preview.ensures.shows cs busy);
    }
