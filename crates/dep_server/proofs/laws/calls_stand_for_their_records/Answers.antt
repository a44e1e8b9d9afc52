use Rattle.dep_server.proofs.CallsStand.{calls_stand}
use Rattle.dep_server.proofs.laws.calls_stand_for_their_records.Goals as goal

pub returns : goal.returns
returns g c = λ old new records calls clean. calls_stand g.A.Archive.condition old new records calls clean
