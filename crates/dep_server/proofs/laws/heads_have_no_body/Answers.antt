use Rattle.dep_server.proofs.HeadOnlyLemmas.{heads_have_no_body}
use Rattle.dep_server.proofs.laws.heads_have_no_body.Goals as goal

pub returns : goal.returns
returns c = λ q. heads_have_no_body q.config q.state q.message q.moment
