-- The lines of five files, added one after another.
use Rattle.std.proofs.Common.{◌≡◌, ℕ, List, [], ◌∷◌, ◌++◌, ap, ◌∙◌, append_assoc, append-nil, Vec, Global}
use Rattle.dep_types.specs.Sinks.{PathAndBytes}
use Rattle.dep_manifest.specs.Manifest.{Digest, checksum_of, manifest_line, manifest_of}
use Rattle.dep_manifest.specs.declared.algorithm.Algorithm.{Algorithm}
use Rattle.dep_manifest.specs.declared.algorithm.Algorithm.TheVariants.{Sha256, Sha512}
use Rattle.dep_manifest.specs.Reported.{text_by}

-- texts without a line
pub no_text : (a : Algorithm) (x y : Vec ℕ Global) → x.items ≡ [] → y.items ≡ [] → text_by a (record { sha256 = x; sha512 = y }) ≡ []
no_text Sha256 x y e g = e
no_text Sha512 x y e g = g

module _ (d : Digest) where
  abbrev line : PathAndBytes → List ℕ
  line f = manifest_line (checksum_of d f)

  regroup : (u v w x y z : List ℕ) → ((((u ++ v) ++ w) ++ x) ++ y) ++ z ≡ u ++ (v ++ (w ++ (x ++ (y ++ (z ++ [])))))
  regroup u v w x y z = simp (append_assoc, append-nil)

  pub five_lines : (p q r s t : PathAndBytes) (none one two three four five : List ℕ)
      → one ≡ none ++ line p → two ≡ one ++ line q → three ≡ two ++ line r → four ≡ three ++ line s → five ≡ four ++ line t
      → five ≡ none ++ manifest_of d (p ∷ q ∷ r ∷ s ∷ t ∷ [])
  five_lines p q r s t none one two three four five e f g h k =
      k ∙ ap (λ l. l ++ line t) (h ∙ ap (λ l. l ++ line s) (g ∙ ap (λ l. l ++ line r) (f ∙ ap (λ l. l ++ line q) e)))
      ∙ regroup none (line p) (line q) (line r) (line s) (line t)
