use Rattle.std.proofs.Common.{◌++◌, ◌∙◌, ap}
use Rattle.dep_manifest.specs.Reported.{reported_tag_manifest}
use Rattle.dep_manifest.proofs.FiveLines.{no_text}
use Rattle.dep_manifest.proofs.tag_manifests.both_tag_manifests.Goals as goal

pub returns : goal.returns
returns c = λ a.
    c.in_ok-add_files.ensures a
    ∙ ap (λ text. text ++ reported_tag_manifest a c.args.view.now) (no_text a c.new.result c.new-2.result c.new.ensures.items c.new-2.ensures.items)
