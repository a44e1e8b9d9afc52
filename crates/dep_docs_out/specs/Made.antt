-- What a call makes, where it is Ok.
use Rattle.std.specs.Prelude.{◌≡◌, ℕ, List, Vec, String, Result, IfOk, string_bytes}

-- a vector with these items
abbrev pub MakesItems : {X Z E : Type 0} → Result (Vec X Z) E → (items : List X) → Type 0
MakesItems result items = IfOk result (λ made. made.items ≡ items)

-- a string with these bytes
abbrev pub MakesText : {Z E : Type 0} → Result (String Z) E → (bytes : List ℕ) → Type 0
MakesText result bytes = IfOk result (λ made. string_bytes made ≡ bytes)
