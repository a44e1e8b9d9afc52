use Rattle.dep_docs_out.specs.Documents.{deposit_members, file_url, kept_members, link_data}
use Rattle.dep_docs_out.proofs.TokenLemmas.{◌⨾◌, object_item}
use Rattle.dep_docs_out.proofs.status.add_link.Goals as goal

pub returns : goal.returns
unfolding deposit_members kept_members link_data
returns c =
    let place = c.made_text.ensures (file_url c.args.config.now c.args.object c.args.file.now.file) c.file_url.ensures in
    let media = rw c.as_str.ensures at c.text.ensures in
    let by = rw c.as_str-2.ensures at c.text-2.ensures in
    let deposit = place ⨾ media ⨾ by ⨾ rw c.new.ensures at c.moment.ensures in
    let kept = c.decimal.ensures ⨾ c.text-3.ensures ⨾ c.add_relations.ensures ⨾ c.text-4.ensures in
    object_item c.token.ensures (deposit ⨾ (c.add_behalf.ensures ⨾ kept)) c.token-2.ensures
