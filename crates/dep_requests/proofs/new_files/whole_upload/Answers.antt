use Rattle.std.proofs.Common.{sym, ◌∙◌}
use Rattle.dep_requests.proofs.SeenWhole.{same_digests, seen_whole}
use Rattle.dep_requests.proofs.new_files.whole_upload.Goals as goal

pub returns : goal.returns
returns c = record {
  reported = λ u it seen.
      let live = c.in-Live.live in
      let whole = seen_whole c.as_slice-views.result.now c.args.view.now.uploads c.args.index u it _ live c.as_slice-views.ensures c.in-Live.is seen in
      (whole.0, same_digests live.digests c.in_ok-digests.digests _ _ (sym c.ok_or.ensures.value ∙ c.in_ok-digests.was) whole.1);
}
