use Rattle.std.proofs.Common.{◌∙◌, ap, map as each}
use Rattle.std.specs.FinMap as map
use Rattle.dep_types.specs.MetadataEntries.{name_and_texts}
use Rattle.dep_types.proofs.Metadatas.{nothing}
use Rattle.dep_types.proofs.metadata.Metadata.new.Goals as goal

pub returns : goal.returns
returns c = ap (λ es. map.from_sorted (each name_and_texts es)) c.new.ensures.items ∙ nothing
