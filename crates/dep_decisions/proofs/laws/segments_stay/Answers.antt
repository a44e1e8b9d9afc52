use Rattle.dep_decisions.proofs.SegmentsStay.{effect_keeps_segments}
use Rattle.dep_decisions.proofs.laws.segments_stay.Goals as goal

pub returns : goal.returns
returns c = effect_keeps_segments
