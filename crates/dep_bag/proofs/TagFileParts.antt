-- What stands at the path of a tag file.
use Rattle.std.proofs.Common.{◌≡◌, Bool, true, false, cond, ℕ, List, Some, None, refl, codes, bytes_eq, map as each}
use Rattle.std.specs.Prelude.{Option, option_map, find}
use Rattle.dep_types.specs.declared.rows.ObjectView.{ObjectView}
use Rattle.dep_manifest.specs.declared.algorithm.Algorithm.TheVariants.{Sha256, Sha512}
use Rattle.dep_bag.specs.Parts.{part_at, stored_part, tag_file_at, tag_text, reported_part}
use Rattle.dep_bag.specs.declared.part.BagPart.{BagPart}
use Rattle.dep_bag.specs.declared.part.BagPart.TheVariants.{Bytes}
use Rattle.dep_bag.specs.declared.part.TagFile.{TagFile}
use Rattle.dep_bag.specs.declared.part.TagFile.TheVariants.{Declaration, Information, Manifest, Metadata, TagManifest}

module _ (view : ObjectView) (path : List ℕ) where
  -- the tag file, or else what stands there of the payload
  abbrev pub part_of : Option TagFile → Option BagPart
  part_of None = part_at path (each stored_part view.files)
  part_of (Some file) = Some (Bytes (tag_text view file))

  first : (name : List ℕ) (file : TagFile) (files : Option TagFile) (parts : Option (List ℕ × BagPart))
      → part_of files ≡ option_map (λ part. part.1) parts
      → part_of (cond (bytes_eq path name) (Some file) files) ≡ option_map (λ part. part.1) (cond (bytes_eq path name) (Some (name, Bytes (tag_text view file))) parts)
  first name file files parts rest = either (bytes_eq path name)
    where
      either : (b : Bool) → part_of (cond b (Some file) files) ≡ option_map (λ part. part.1) (cond b (Some (name, Bytes (tag_text view file))) parts)
      either true = refl
      either false = rest

  pub by_tag_file : part_of (tag_file_at path) ≡ reported_part view path
  by_tag_file =
      first (codes "bagit.txt") Declaration _ _
      (first (codes "bag-info.txt") Information _ _
      (first (codes "manifest-sha256.txt") (Manifest Sha256) _ _
      (first (codes "manifest-sha512.txt") (Manifest Sha512) _ _
      (first (codes "metadata/sword.json") Metadata _ _
      (first (codes "tagmanifest-sha256.txt") (TagManifest Sha256) _ _
      (first (codes "tagmanifest-sha512.txt") (TagManifest Sha512) _ (find (λ part. bytes_eq path part.0) (each stored_part view.files)) refl))))))
