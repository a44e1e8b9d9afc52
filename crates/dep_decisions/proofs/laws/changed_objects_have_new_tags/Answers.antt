use Rattle.dep_decisions.proofs.ObjectsStay.{effect_keeps_objects}
use Rattle.dep_decisions.proofs.laws.changed_objects_have_new_tags.Goals as goal

pub returns : goal.returns
returns c = effect_keeps_objects
