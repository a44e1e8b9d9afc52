use Rattle.dep_server.proofs.TakenAgain.{after_work}
use Rattle.dep_server.proofs.laws.segment_in_work_is_taken_again.Goals as goal

pub returns : goal.returns
returns c = λ r q u accepted. after_work r.config r.first r.records r.last r.run q.message q.moment u q.began q.ends accepted
