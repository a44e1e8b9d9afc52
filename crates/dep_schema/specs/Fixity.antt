-- Which files have other bytes than those whose digests are kept of them.
use Rattle.std.specs.Prelude.{◌≡◌, ℕ, pos, List, [], ◌∷◌, ◌++◌, length, map, filter, Option, Some, None}
use Rattle.std.specs.List.{AllZip, flat_map}
use Rattle.sqlite.specs.Order.{Row, column}
use Rattle.sqlite.specs.State.{State, Shown}
use Rattle.sqlite.specs.declared.types.Value.{Value}
use Rattle.sqlite.specs.declared.types.Value.TheVariants.{Int, Blob}
use Rattle.dep_fixity.specs.Fixity.{digests_of}
use Rattle.dep_fixity.specs.declared.hasher.Digests.{Digests}
use Rattle.dep_manifest.specs.Damaged.{number_unless_kept}
use Rattle.dep_tables.specs.Rowids.{InOrder, has_number}
use Rattle.dep_schema.specs.Sent.{joined_blobs}
use Rattle.dep_tables.specs.Rows.{IsDigestValue, shown_block, shown_sha256, is_block_of, is_sha512_of, value_in, by_part_and_place}
use Rattle.dep_tables.specs.Tables.{Tables}
use Rattle.dep_tables.specs.declared.owner.BlockOwner.{BlockOwner}
use Rattle.dep_tables.specs.declared.owner.BlockOwner.TheVariants as owner
use Rattle.dep_schema.specs.declared.auditing.Audit.{Audit}
use Rattle.dep_schema.specs.declared.auditing.FileFixity.{FileFixity}

-- the digests of the rows that a query shows there, joined
pub record HashesShown (sql : List ℕ) (params : Row) (now : State) (digests : Digests) : Type 0 where
  pub rows : List Row
  pub shown : Shown sql params now now rows
  pub are : digests ≡ digests_of (joined_blobs rows)

-- the digests of an owner's blocks, joined by part and place
pub record AreDigestsOf (t : Tables) (o : BlockOwner) (digests : Digests) : Type 0 where
  pub rows : List Row
  pub ordered : InOrder by_part_and_place (map shown_block (filter (is_block_of o) t.blocks)) rows
  pub are : digests ≡ digests_of (joined_blobs rows)

-- The one value that is kept is this digest. None is read where there is no value, or one that isn't a digest of so many
-- bytes, as of a row that somebody damaged.
abbrev pub IsKeptDigest : (width : ℕ) → List Value → Option (List ℕ) → Type 0
IsKeptDigest width kept (Some digest) = kept ≡ Blob digest ∷ []
IsKeptDigest width kept None = (value : Value) → kept ≡ value ∷ [] → ¬ (IsDigestValue width value)

-- the SHA-512 that the tables keep of an owner, if they keep one
abbrev pub IsKeptSha512 : Tables → BlockOwner → Option (List ℕ) → Type 0
IsKeptSha512 t o = IsKeptDigest 64 (map value_in (filter (is_sha512_of o) t.sha512s))

-- the files whose rows name an object, each by its number and what its row keeps as its SHA-256
abbrev pub sha256_rows : (object : ℕ) → Tables → List Row
sha256_rows object t = map shown_sha256 (filter (has_number 2 object) t.files)

-- what is compared of the file of such a row: the digests that are kept of it, and those of its blocks
pub record HasFixity (t : Tables) (row : Row) (found : FileFixity) : Type 0 where
  pub number : column row 0 ≡ Int (pos found.file)
  pub sha256 : IsKeptDigest 32 (column row 1 ∷ []) found.sha256
  pub sha512 : IsKeptSha512 t (owner.File found.file) found.sha512
  pub digests : AreDigestsOf t (owner.File found.file) found.digests

-- the number of a file, unless both digests are kept, and are those of its bytes
abbrev pub number_unless : FileFixity → (sha256 : Option (List ℕ)) → List ℕ
number_unless found None = found.file ∷ []
number_unless found (Some sha256) =
    number_unless_kept found.file (record { sha256 = sha256; sha512 = found.sha512 }) found.digests

abbrev pub number_if_damaged : FileFixity → List ℕ
number_if_damaged found = number_unless found found.sha256

-- All files of the object were checked, each by the digests of its blocks, and the damaged are noted in their order.
pub record IsAudited (t : Tables) (object : ℕ) (audit : Audit) : Type 0 where
  pub checked : audit.checked ≡ length (sha256_rows object t)
  pub found : List FileFixity
  pub are : AllZip (HasFixity t) (sha256_rows object t) found
  pub damaged : audit.damaged.items ≡ flat_map number_if_damaged found

-- by what was found of it a file was noted, or not
pub record KeepsDamaged (t : Tables) (row : Row) (old new : List ℕ) : Type 0 where
  pub found : FileFixity
  pub its : HasFixity t row found
  pub noted : new ≡ old ++ number_if_damaged found
