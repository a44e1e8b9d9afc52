-- The texts of a bag's tag files, and where its manifests stand (RFC 8493, section 2).
use Rattle.std.specs.Prelude.{ℕ, ◌++◌, List, min, codes, decimal}
use Rattle.dep_types.specs.Limits.{greatest_moment}
use Rattle.dep_moment.specs.Civil.{day_text}
use Rattle.dep_manifest.specs.declared.algorithm.Algorithm.{Algorithm}
use Rattle.dep_manifest.specs.declared.algorithm.Algorithm.TheVariants.{Sha256, Sha512}

-- the text of `bagit.txt`
abbrev pub bagit_text : List ℕ
bagit_text = codes "BagIt-Version: 1.0\nTag-File-Character-Encoding: UTF-8\n"

-- so many bytes, a dot, and so many files
abbrev pub oxum_text : (octets count : ℕ) → List ℕ
oxum_text octets count = decimal octets ++ codes "." ++ decimal count

-- the day of the last change, and what the payload has
abbrev pub info_text : (changed : ℕ) → (payload_oxum : List ℕ) → List ℕ
info_text changed payload_oxum =
    codes "Bagging-Date: " ++ day_text (min changed greatest_moment) ++ codes "\nPayload-Oxum: "
    ++ payload_oxum ++ codes "\n"

-- where the manifests of an algorithm stand
abbrev pub manifest_path : Algorithm → List ℕ
manifest_path Sha256 = codes "manifest-sha256.txt"
manifest_path Sha512 = codes "manifest-sha512.txt"

abbrev pub tag_manifest_path : Algorithm → List ℕ
tag_manifest_path Sha256 = codes "tagmanifest-sha256.txt"
tag_manifest_path Sha512 = codes "tagmanifest-sha512.txt"
