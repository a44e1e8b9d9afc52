-- Why there is no name, and why parameters are refused.
use Rattle.std.specs.Prelude.{ℕ, List, bytes_eq}
use Rattle.std.specs.List.{IsDistinct}
use Rattle.dep_params.specs.declared.disposition.ParamFault.{ParamFault}
use Rattle.dep_params.specs.declared.disposition.ParamFault.TheVariants.{Malformed, Repeated, NoName, Memory}

-- nothing is such a name, or memory was refused for one
abbrev pub FailsToName : (List ℕ → Type 0) → ParamFault → Type 0
FailsToName IsName Malformed = ⊥
FailsToName IsName Repeated = ⊥
FailsToName IsName NoName = (name : List ℕ) → ¬ IsName name
FailsToName IsName Memory = (name : List ℕ) × IsName name

-- a name stands twice, or memory was refused
abbrev pub ReportsRepeats : (names : List (List ℕ)) → ParamFault → Type 0
ReportsRepeats names Malformed = ⊥
ReportsRepeats names Repeated = ¬ IsDistinct bytes_eq names
ReportsRepeats names NoName = ⊥
ReportsRepeats names Memory = Unit {0}
