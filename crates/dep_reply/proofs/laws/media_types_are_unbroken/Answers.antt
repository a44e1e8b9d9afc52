use Rattle.dep_reply.proofs.LineLemmas.{unbroken_media}
use Rattle.dep_reply.proofs.laws.media_types_are_unbroken.Goals as goal

pub returns : goal.returns
returns c = unbroken_media
