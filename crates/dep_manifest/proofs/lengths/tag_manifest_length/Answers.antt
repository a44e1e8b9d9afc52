use Rattle.std.proofs.Common.{length, sym, ap, ◌∙◌}
use Rattle.dep_manifest.specs.Manifest.{digest_by, manifest_of}
use Rattle.dep_manifest.specs.declared.algorithm.Algorithm.{Algorithm}
use Rattle.dep_manifest.specs.declared.algorithm.Algorithm.TheVariants.{Sha256, Sha512}
use Rattle.dep_manifest.proofs.ByPaths.{listed_length}
use Rattle.dep_manifest.proofs.lengths.tag_manifest_length.Goals as goal

pub returns-in-Sha256 : goal.returns-in-Sha256
returns-in-Sha256 c = λ view files e.
    sym (ap (λ (a : Algorithm). length (manifest_of (digest_by a) files)) c.in-Sha256.is ∙ listed_length Sha256 view files e)

pub returns-in-Sha512 : goal.returns-in-Sha512
returns-in-Sha512 c = λ view files e.
    sym (ap (λ (a : Algorithm). length (manifest_of (digest_by a) files)) c.in-Sha512.is ∙ listed_length Sha512 view files e)
