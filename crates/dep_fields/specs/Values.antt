-- The values of the fields of one name, and what is read from them.
use Rattle.std.specs.Prelude.{◌≡◌, ℕ, List, [], ◌∷◌, Option, Some, None}
use Rattle.std.specs.Borrow.{Bor}
use Rattle.std.specs.List.{join_with_byte}
use Rattle.dep_fields.specs.declared.field.Field.{Field}
use Rattle.dep_fields.specs.declared.field.Field.TheVariants.{Absent, Bad, Value}

-- the text of a field that may stand once
abbrev pub single : List (List ℕ) → Field (List ℕ)
single [] = Absent
single (text ∷ []) = Value text
single (text ∷ other ∷ more) = Bad

-- the text of a field whose values are one comma list
abbrev pub joined_values : List (List ℕ) → Field (List ℕ)
joined_values [] = Absent
joined_values (text ∷ more) = Value (join_with_byte 44 (text ∷ more))

-- the value, and bad where there is none
abbrev pub or_bad : {X : Type 0} → Option X → Field X
or_bad None = Bad
or_bad (Some x) = Value x

-- the field has a value
abbrev pub HasValue : {X : Type 0} → Field X → Type 0
HasValue Absent = ⊥
HasValue Bad = ⊥
HasValue (Value x) = Unit {0}

-- what a reader makes of a field's text
abbrev pub read_from : {X : Type 0} → (List ℕ → Option X) → Field (List ℕ) → Field X
read_from read Absent = Absent
read_from read Bad = Bad
read_from read (Value text) = or_bad (read text)

-- a value that may be read, or bad where none may
abbrev pub IsRead : {X : Type 0} → (X → Type 0) → Field X → Type 0
IsRead Reads Absent = ⊥
IsRead {X} Reads Bad = (x : X) → ¬ Reads x
IsRead Reads (Value x) = Reads x

-- what a relation of texts and values makes of a field's text
abbrev pub IsReadFrom : {X : Type 0} → (List ℕ → X → Type 0) → Field (List ℕ) → Field X
    → Type 0
IsReadFrom Reads Absent reported = reported ≡ Absent
IsReadFrom Reads Bad reported = reported ≡ Bad
IsReadFrom Reads (Value text) reported = IsRead (Reads text) reported

-- a field whose text is borrowed
abbrev pub texts : Field (Bor (List ℕ)) → Field (List ℕ)
texts Absent = Absent
texts Bad = Bad
texts (Value text) = Value text.now
