use Rattle.std.proofs.Common.{codes}
use Rattle.dep_docs_out.specs.Documents.{metadata_url, state_members, states_data, url}
use Rattle.dep_docs_out.proofs.TokenLemmas.{◌⨾◌, list_member, object_item}
use Rattle.dep_docs_out.proofs.status.add_state.Goals as goal

pub returns : goal.returns
unfolding state_members states_data
returns c =
    let metadata = c.add_part.ensures (metadata_url c.args.config.now c.args.object.now.object) c.part_url-metadata.ensures in
    let service = c.made_text.ensures (url c.args.config.now (codes "/service")) c.url.ensures in
    let id = rw c.state_id.ensures at c.text.ensures in
    let state = list_member c.token.ensures c.token-2.ensures (object_item c.token-3.ensures id c.token-4.ensures) c.token-5.ensures in
    metadata ⨾ service ⨾ state
