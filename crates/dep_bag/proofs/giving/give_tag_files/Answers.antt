use Rattle.dep_bag.specs.Giving.{state_of, listed_transcript, manifests_transcript, tag_transcript}
use Rattle.dep_bag.proofs.GivenParts.{part_fails, part_last}
use Rattle.dep_bag.proofs.GivenFiles.{listed_next, manifests_next}
use Rattle.dep_bag.proofs.giving.give_tag_files.Goals as goal

pub returns-in_err-give_listed : goal.returns-in_err-give_listed
returns-in_err-give_listed g c =
    let reported = state_of g.K.Outlet.taken g.K.Outlet.failures in
    let view = c.args.view.now in
    part_fails (reported c.args.sink.now) (reported c.args.sink.now) (reported c.give_listed.new.sink) (tag_transcript view) (listed_transcript view) (manifests_transcript view)
    c.from_residual.result c.in_err-give_listed.field-0.0 (listed_next (reported c.args.sink.now) view) c.in_err-give_listed.ensures c.from_residual.ensures.1

pub returns : goal.returns
returns g c =
    let reported = state_of g.K.Outlet.taken g.K.Outlet.failures in
    let view = c.args.view.now in
    part_last (reported c.args.sink.now) (reported c.give_listed.new.sink) (reported c.give_tag_manifests.new.sink) (tag_transcript view) (manifests_transcript view)
    c.give_tag_manifests.result (manifests_next (reported c.args.sink.now) (reported c.give_listed.new.sink) view _ c.in_ok-give_listed.ensures) c.give_tag_manifests.ensures
