use Rattle.std.proofs.Common.{codes}
use Rattle.dep_docs_out.specs.Documents.{service_offers, url}
use Rattle.dep_docs_out.proofs.TokenLemmas.{◌⨾◌}
use Rattle.dep_docs_out.proofs.service.add_offers.Goals as goal

pub returns : goal.returns
unfolding service_offers
returns c =
    let root = url c.args.config.now (codes "/service") in
    c.text.ensures
    ⨾ c.made_text.ensures root c.url.ensures
    ⨾ c.text-2.ensures
    ⨾ c.only.ensures
    ⨾ c.flag.ensures
    ⨾ c.only-2.ensures
    ⨾ c.only-3.ensures
