use Rattle.dep_views.proofs.Sent.{first_view}
use Rattle.dep_views.proofs.repeats.lacks_segment.Goals as goal

pub returns-then-view-id : goal.returns-then-view-id
returns-then-view-id c = record {
  lacks = λ fewer s by uploads sound reported.
      c.comes_in_fewer.ensures.lacks fewer s by c.args.id.upload sound (first_view s by c.args.views.now uploads _ c.args.id.upload reported c.in-len1.len_at_least c.if-view-id.true);
}
