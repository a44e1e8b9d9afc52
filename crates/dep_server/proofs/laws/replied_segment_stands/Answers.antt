use Rattle.dep_server.proofs.Acknowledging.{replied_represents}
use Rattle.dep_server.proofs.laws.replied_segment_stands.Goals as goal

pub returns : goal.returns
returns c = λ q u posted replied. replied_represents q.config q.state q.message q.moment u posted replied
