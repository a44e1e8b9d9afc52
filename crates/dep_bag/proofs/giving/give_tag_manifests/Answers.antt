use Rattle.dep_manifest.specs.declared.algorithm.Algorithm.TheVariants.{Sha256, Sha512}
use Rattle.dep_manifest.specs.Reported.{reported_tag_manifest}
use Rattle.dep_bag.specs.Parts.{reported_tag_manifests}
use Rattle.dep_bag.specs.Giving.{state_of, manifests_transcript}
use Rattle.dep_bag.proofs.GivenParts.{none_asked}
use Rattle.dep_bag.proofs.GivenFiles.{all_left, next_given, next_fails, last_given}
use Rattle.dep_bag.proofs.giving.give_tag_manifests.Goals as goal

pub returns-in_err-sha256 : goal.returns-in_err-sha256
returns-in_err-sha256 g c =
    none_asked (state_of g.K.Outlet.taken g.K.Outlet.failures c.args.sink.now) (manifests_transcript c.args.view.now) c.from_residual.result c.from_residual.ensures.1

pub returns-in_err-give_text : goal.returns-in_err-give_text
returns-in_err-give_text g c =
    let reported = state_of g.K.Outlet.taken g.K.Outlet.failures in
    let view = c.args.view.now in
    next_fails (reported c.give_text.new.sink) c.from_residual-in_err-give_text.result c.in_err-give_text.field-0.0
    (all_left (reported c.args.sink.now) (reported_tag_manifests view))
    (c.in_err-give_text.ensures (reported_tag_manifest Sha256 view) (c.in_ok-sha256.ensures Sha256)) c.from_residual-in_err-give_text.ensures.1

pub returns : goal.returns
returns g c =
    let reported = state_of g.K.Outlet.taken g.K.Outlet.failures in
    let view = c.args.view.now in
    last_given (reported c.give_text-2.new.sink) c.give_text-2.result
    (next_given (reported c.give_text.new.sink) (all_left (reported c.args.sink.now) (reported_tag_manifests view))
    (c.in_ok-give_text.ensures (reported_tag_manifest Sha256 view) (c.in_ok-sha256.ensures Sha256)))
    (c.give_text-2.ensures (reported_tag_manifest Sha512 view) (c.in_ok-sha256.ensures Sha512))
