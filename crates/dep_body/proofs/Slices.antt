-- Parts of lists.
use Rattle.std.proofs.Common.{◌≡◌, ℕ, ◌-◌, min, List, take, drop, length, sym, ap, ◌∙◌, arith, length-drop, inl, inr}
use Rattle.std.proofs.lemmas.Bool.{cases_lt}
use Rattle.std.proofs.lemmas.List.{take_all}
use Rattle.std.proofs.Math.Seq.{take-length}

-- the slice behind a front
pub rest_is : (n : ℕ) (bytes : List ℕ) → take (length bytes - n) (drop n bytes) ≡ drop n bytes
rest_is n bytes = ap (λ k. take k (drop n bytes)) (sym (length-drop n bytes)) ∙ take-length (drop n bytes)

-- at most so many
pub at_most : (count : ℕ) (bytes : List ℕ) → take (min (length bytes) count) bytes ≡ take count bytes
at_most count bytes = elim (cases_lt (length bytes) count) as (λ _. take (min (length bytes) count) bytes ≡ take count bytes) [
  | inl less ↦ (
      let all : min (length bytes) count ≡ length bytes = omega arith in
      ap (λ k. take k bytes) all ∙ (take-length bytes ∙ sym (take_all count bytes (omega arith)))
      )
  | inr within ↦ (let some : min (length bytes) count ≡ count = omega arith in ap (λ k. take k bytes) some)
]

-- the first bytes of the slice behind a front, of at most so many
pub come_is : (bytes slice : List ℕ) (start count come : ℕ) → slice ≡ bytes → come ≡ min (length (take (length slice - start) (drop start slice))) count
    → take come (take (length slice - start) (drop start slice)) ≡ take count (drop start bytes)
come_is bytes slice start count come same come_size =
    let rest : take (length slice - start) (drop start slice) ≡ drop start bytes = rest_is start slice ∙ ap (drop start) same in
    ap (λ k. take k (take (length slice - start) (drop start slice))) come_size
    ∙ (at_most count (take (length slice - start) (drop start slice)) ∙ ap (take count) rest)
