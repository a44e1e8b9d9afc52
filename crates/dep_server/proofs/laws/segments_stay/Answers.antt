use Rattle.dep_server.proofs.UploadsStay.{segment_stays}
use Rattle.dep_server.proofs.laws.segments_stay.Goals as goal

pub returns : goal.returns
returns c = λ r p u k bytes sound h. segment_stays u k bytes r p sound h
