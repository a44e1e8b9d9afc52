use Rattle.dep_docs_out.specs.Documents.{actions_data}
use Rattle.dep_docs_out.proofs.TokenLemmas.{◌⨾◌, object_member}
use Rattle.dep_docs_out.proofs.status.add_actions.Goals as goal

pub returns : goal.returns
unfolding actions_data
returns c =
    object_member c.token.ensures c.token-2.ensures
    (c.flag.ensures
    ⨾ c.flag-2.ensures
    ⨾ c.flag-3.ensures
    ⨾ c.flag-4.ensures
    ⨾ c.flag-5.ensures
    ⨾ c.flag-6.ensures
    ⨾ c.flag-7.ensures
    ⨾ c.flag-8.ensures
    ⨾ c.flag-9.ensures)
    c.token-3.ensures
