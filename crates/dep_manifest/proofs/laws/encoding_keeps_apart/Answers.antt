use Rattle.dep_manifest.proofs.Encoding.{encoding_injective}
use Rattle.dep_manifest.proofs.laws.encoding_keeps_apart.Goals as goal

pub returns : goal.returns
returns c = encoding_injective
