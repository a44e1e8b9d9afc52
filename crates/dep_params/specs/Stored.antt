-- The parameters of a disposition, as lists.
use Rattle.std.specs.Prelude.{ℕ, List, map}
use Rattle.dep_params.specs.declared.disposition.Parameter.{Parameter}
use Rattle.dep_params.specs.Grammar.{NamedValue}

abbrev pub view : Parameter → NamedValue
view p = record { name = p.name.items; value = p.value.items }

abbrev pub views : List Parameter → List NamedValue
views ps = map view ps

abbrev pub names_in : List Parameter → List (List ℕ)
names_in ps = map (λ p. p.name.items) ps
