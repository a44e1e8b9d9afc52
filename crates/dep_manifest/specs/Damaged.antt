-- Which files have other bytes than those whose digests are kept of them.
use Rattle.std.specs.Prelude.{ℕ, List, [], ◌∷◌, bytes_eq, ◌&&◌, if◌then◌else◌}
use Rattle.dep_fixity.specs.Fixity.{is_just}
use Rattle.dep_fixity.specs.declared.hasher.Digests.{Digests}
use Rattle.dep_manifest.specs.declared.damaged.KeptDigests.{KeptDigests}

-- the number of the file, unless its bytes have the digests that are kept of it: where no SHA-512 is kept, they don't
abbrev pub number_unless_kept : (file : ℕ) → KeptDigests → Digests → List ℕ
number_unless_kept file kept digests =
    if bytes_eq kept.sha256 digests.sha256 && is_just digests.sha512 kept.sha512 then []
    else file ∷ []
