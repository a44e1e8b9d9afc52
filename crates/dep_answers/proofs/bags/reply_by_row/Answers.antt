use Rattle.std.proofs.Common.{◌∙◌, sym, ap, Some, rules}
use Rattle.std.proofs.lemmas.Result.{IfOk-weaker}
use Rattle.dep_bag.specs.declared.part.TagFile.{TagFile}
use Rattle.dep_answers.proofs.ManifestLengths.{tag_manifest_measured}
use Rattle.dep_answers.proofs.bags.reply_by_row.Goals as goal

pub returns-in-Some-TagManifest-clause-says : goal.returns-in-Some-TagManifest-clause-says
returns-in-Some-TagManifest-clause-says c =
    IfOk-weaker c.measured_reply.result _ _
    (λ said says s n o sound of there by.
    let at = sym c.tag_file.ensures ∙ c.in-Some-TagManifest.is ∙ ap (λ (file : TagFile). Some file) c.in-Some-TagManifest.field-0-is in
    tag_manifest_measured s n o c.args.path.now c.args.delivery said c.in-Some-TagManifest.algorithm c.tag_manifest_length.result at by
    c.tag_manifest_length.ensures says)
    c.measured_reply.ensures.says

pub returns-in-Some-TagManifest-clause-ends : goal.returns-in-Some-TagManifest-clause-ends
returns-in-Some-TagManifest-clause-ends c = c.measured_reply.ensures.ends

pub returns-in_err-declaration-in_default-clause-says : goal.returns-in_err-declaration-in_default-clause-says
returns-in_err-declaration-in_default-clause-says c = search rules

pub returns-in_err-declaration-in_default-clause-ends : goal.returns-in_err-declaration-in_default-clause-ends
returns-in_err-declaration-in_default-clause-ends c = search rules

pub returns-in_ok-declaration-in_default-clause-says : goal.returns-in_ok-declaration-in_default-clause-says
returns-in_ok-declaration-in_default-clause-says c = search rules

pub returns-in_ok-declaration-in_default-clause-ends : goal.returns-in_ok-declaration-in_default-clause-ends
returns-in_ok-declaration-in_default-clause-ends c = search rules
