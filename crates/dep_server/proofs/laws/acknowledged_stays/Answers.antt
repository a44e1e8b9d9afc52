use Rattle.dep_server.proofs.SegmentsStay.{stays}
use Rattle.dep_server.proofs.laws.acknowledged_stays.Goals as goal

pub returns : goal.returns
returns c = λ r s u k bytes sound through h. stays u k bytes r.config r.first r.records r.last r.run s sound through h
