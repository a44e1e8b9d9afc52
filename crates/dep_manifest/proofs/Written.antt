-- Texts that are written piece after piece.
use Rattle.std.proofs.Common.{◌≡◌, ℕ, ◌+◌, ◌<◌, List, [], ◌∷◌, ◌++◌, length, take, append_assoc, length-append, refl, sym, ap, ◌∙◌, min, codes, decimal}
use Rattle.std.specs.Prelude.{get_or}
use Rattle.std.proofs.lemmas.List.{take_more, flat_map_more}
use Rattle.dep_moment.specs.Civil.{day_text}
use Rattle.dep_types.specs.Limits.{greatest_moment}
use Rattle.dep_manifest.specs.Manifest.{encoded_byte, encoded_path}
use Rattle.dep_manifest.specs.TagFiles.{info_text, oxum_text}

pub one_byte_more : (path before text new : List ℕ) (i byte : ℕ) → i < length path → get_or path i 0 ≡ byte
    → text ≡ before ++ encoded_path (take i path) → new ≡ text ++ encoded_byte byte → new ≡ before ++ encoded_path (take (i + 1) path)
one_byte_more path before text new i byte within is so_far added =
    added ∙ (ap (λ (t : List ℕ). t ++ encoded_byte byte) so_far ∙ (flat_map_more encoded_byte before (take i path) byte
    ∙ ap (λ (xs : List ℕ). before ++ encoded_path xs) (sym (take_more path i 0 within ∙ ap (λ (b : ℕ). take i path ++ b ∷ []) is))))

-- and how much longer the text is then
pub one_byte_longer : (path : List ℕ) (i byte : ℕ) → i < length path → get_or path i 0 ≡ byte → length (encoded_path (take (i + 1) path)) ≡ length (encoded_path (take i path)) + length (encoded_byte byte)
one_byte_longer path i byte within is =
    sym (ap length (one_byte_more path [] (encoded_path (take i path)) _ i byte within is refl refl)) ∙ length-append (encoded_path (take i path)) (encoded_byte byte)

-- the text of `bag-info.txt`, joined of its pieces
pub info_pieces : (changed octets count : ℕ) (day bytes files text : List ℕ)
    → day ≡ day_text (min changed greatest_moment) → bytes ≡ decimal octets → files ≡ decimal count
    → text ≡ codes "Bagging-Date: " ++ (day ++ (codes "\nPayload-Oxum: " ++ (bytes ++ (codes "." ++ (files ++ (codes "\n" ++ []))))))
    → text ≡ info_text changed (oxum_text octets count)
info_pieces changed octets count day bytes files text d b f joined =
    joined
    ∙ (regroup (codes "Bagging-Date: ") day (codes "\nPayload-Oxum: ") bytes (codes ".") files (codes "\n")
    ∙ (λ i. codes "Bagging-Date: " ++ d i ++ codes "\nPayload-Oxum: " ++ (b i ++ codes "." ++ f i) ++ codes "\n"))
  where
    regroup : (s t u v w x y : List ℕ) → s ++ (t ++ (u ++ (v ++ (w ++ (x ++ y))))) ≡ s ++ t ++ u ++ (v ++ w ++ x) ++ y
    regroup s t u v w x y = simp append_assoc
