use Rattle.std.proofs.Common.{codes}
use Rattle.dep_docs_out.specs.Documents.{service_places, url}
use Rattle.dep_docs_out.proofs.TokenLemmas.{◌⨾◌}
use Rattle.dep_docs_out.proofs.service.add_places.Goals as goal

pub returns : goal.returns
unfolding service_places
returns c =
    let root = url c.args.config.now (codes "/service") in
    let staging = url c.args.config.now (codes "/staging") in
    c.flag.ensures
    ⨾ c.made_text.ensures root c.url.ensures
    ⨾ c.made_text-2.ensures staging c.url-2.ensures
    ⨾ c.whole_number.ensures
    ⨾ c.text.ensures
