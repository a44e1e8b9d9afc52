-- Paths that differ are written differently.
use Rattle.std.proofs.Common.{◌≡◌, ℕ, ◌==◌, true, false, cond, List, [], ◌∷◌, ◌++◌, refl, sym, ap, ◌∙◌, codes}
use Rattle.std.proofs.lemmas.Bool.{eqb-true}
use Rattle.dep_manifest.specs.Manifest.{encoded_byte, encoded_path}

-- the byte of two digits after a percent sign
abbrev unescaped : (high low : ℕ) → ℕ
unescaped high low = cond (high == 50) 37 (cond (low == 65) 10 13)

abbrev decoded : List ℕ → List ℕ
decoded [] = []
decoded (x ∷ []) = x ∷ []
decoded (x ∷ y ∷ []) = x ∷ y ∷ []
decoded (x ∷ y ∷ z ∷ rest) = cond (x == 37) (unescaped y z ∷ decoded rest) (x ∷ decoded (y ∷ z ∷ rest))

plain_first : (b : ℕ) (xs : List ℕ) → (b == 37) ≡ false → decoded (b ∷ xs) ≡ b ∷ decoded xs
plain_first b [] e = refl
plain_first b (y ∷ []) e = refl
plain_first b (y ∷ z ∷ rest) e = ap (λ t. cond t (unescaped y z ∷ decoded rest) (b ∷ decoded (y ∷ z ∷ rest))) e

decoded-byte : (b : ℕ) (xs : List ℕ) → decoded (encoded_byte b ++ xs) ≡ b ∷ decoded xs
decoded-byte b xs = elim (b == 37) as (λ t. (b == 37) ≡ t → decoded (cond t (codes "%25") (cond (b == 10) (codes "%0A") (cond (b == 13) (codes "%0D") (b ∷ []))) ++ xs) ≡ b ∷ decoded xs) [
  | true ↦ λ e. ap (λ x. x ∷ decoded xs) (sym (eqb-true b 37 e))
  | false ↦ λ not_percent. elim (b == 10) as (λ t. (b == 10) ≡ t → decoded (cond t (codes "%0A") (cond (b == 13) (codes "%0D") (b ∷ [])) ++ xs) ≡ b ∷ decoded xs) [
    | true ↦ λ e. ap (λ x. x ∷ decoded xs) (sym (eqb-true b 10 e))
    | false ↦ λ _. elim (b == 13) as (λ t. (b == 13) ≡ t → decoded (cond t (codes "%0D") (b ∷ []) ++ xs) ≡ b ∷ decoded xs) [
      | true ↦ λ e. ap (λ x. x ∷ decoded xs) (sym (eqb-true b 13 e))
      | false ↦ λ _. plain_first b xs not_percent
    ] refl
  ] refl
] refl

decoded-encoded : (path : List ℕ) → decoded (encoded_path path) ≡ path
decoded-encoded [] = refl
decoded-encoded (b ∷ path) = decoded-byte b (encoded_path path) ∙ ap (λ l. b ∷ l) (decoded-encoded path)

pub encoding_injective : (a b : List ℕ) → encoded_path a ≡ encoded_path b → a ≡ b
encoding_injective a b e = sym (decoded-encoded a) ∙ ap decoded e ∙ decoded-encoded b
