use Rattle.dep_server.proofs.SegmentsStay.{received_represents}
use Rattle.dep_server.proofs.laws.accepted_segment_stands.Goals as goal

pub returns : goal.returns
returns c = λ q u k h. received_represents q.config q.state q.message q.moment u k h.accepted.named h.named h.accepted.passed
