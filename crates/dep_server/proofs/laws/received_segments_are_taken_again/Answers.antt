use Rattle.dep_server.proofs.TakenAgain.{after_step}
use Rattle.dep_server.proofs.laws.received_segments_are_taken_again.Goals as goal

pub returns : goal.returns
returns c = λ r q u sound accepted. after_step r.config r.first r.records r.last r.run q.before q.behind q.message q.moment u sound q.joined accepted
