use Rattle.std.proofs.Common.{◌<◌, arith, sym, ◌∙◌}
use Rattle.std.proofs.lemmas.Bool.Decides.{nat_tests}
use Rattle.dep_operations.specs.declared.view.UploadState.TheVariants.{TimedOut, Unknown}
use Rattle.dep_views.proofs.Sent.{lacks_all, lacks_beyond}
use Rattle.dep_views.proofs.repeats.comes_in_fewer.Goals as goal

pub returns-in-Live : goal.returns-in-Live
returns-in-Live c = record {
  lacks = λ above s by u sound is.
      let beyond : c.in-Live.live.row.count < c.args.number = grind (arith, nat_tests, above) in
      lacks_beyond s by u c.in-Live.live sound (sym c.in-Live.is ∙ is) c.args.number beyond;
}

pub returns-in-TimedOut : goal.returns-in-TimedOut
returns-in-TimedOut c = record {
  lacks = λ reported s by u sound is. lacks_all s by u TimedOut (λ live e. cc) (sym c.in-TimedOut.is ∙ is) c.args.number;
}

pub returns-in-Unknown : goal.returns-in-Unknown
returns-in-Unknown c = record {
  lacks = λ reported s by u sound is. lacks_all s by u Unknown (λ live e. cc) (sym c.in-Unknown.is ∙ is) c.args.number;
}
