-- Texts that name someone, and texts that are joined by commas.
use Rattle.std.proofs.Common.{◌≡◌, ◌==◌, ◌&&◌, ℕ, List, Bool, true, false, Some, None, length, nat_lt, refl, if◌then◌else◌, inl, inr}
use Rattle.std.proofs.lemmas.Bool.{cases_Bool}
use Rattle.std.proofs.lemmas.Str.{IsUtf8-from_is_utf8, is_utf8-from_IsUtf8}
use Rattle.std.specs.Str.{IsUtf8, is_utf8}
use Rattle.dep_params.proofs.Values.{is_some}
use Rattle.dep_types.specs.Names.{if_passes}
use Rattle.dep_fields.specs.Fields.{is_behalf}

and_false : (b : Bool) (text : List ℕ) → (if b && false then Some text else None) ≡ None
and_false true text = refl
and_false false text = refl

pub not_utf8 : (text : List ℕ) → (IsUtf8 text → ⊥) → if_passes is_behalf text ≡ None
not_utf8 text wrong = elim (cases_Bool (is_utf8 text)) [
  | inl good ↦ absurd (wrong (IsUtf8-from_is_utf8 text good))
  | inr bad ↦ rw bad (and_false (nat_lt 0 (length text)) text)
]

pub named : (text : List ℕ) → (length text == 0) ≡ false → IsUtf8 text → if_passes is_behalf text ≡ Some text
named text some good = rw (is_some (length text) some, is_utf8-from_IsUtf8 text good) refl
