use Rattle.dep_docs_out.specs.Documents.{files_url, object_members, object_url}
use Rattle.dep_docs_out.proofs.TokenLemmas.{◌⨾◌}
use Rattle.dep_docs_out.proofs.status.add_object.Goals as goal

pub returns : goal.returns
unfolding object_members
returns c =
    let place = c.made_text.ensures (object_url c.args.config.now c.args.object.now.object) c.object_url.ensures in
    let files = c.add_part.ensures (files_url c.args.config.now c.args.object.now.object) c.part_url-files.ensures in
    c.text.ensures
    ⨾ place
    ⨾ c.text-2.ensures
    ⨾ c.add_actions.ensures
    ⨾ c.decimal.ensures
    ⨾ files
