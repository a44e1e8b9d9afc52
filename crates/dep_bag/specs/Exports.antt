-- What an export gives a sink.
use Rattle.std.specs.Prelude.{◌≡◌, ◌⊎◌, ℕ, List, [], Some, None, Result, Ok, Err, codes, ◌∷◌}
use Rattle.std.specs.FinMap as map
use Rattle.dep_types.specs.State.{State, Object}
use Rattle.dep_types.specs.Sinks.{transcript, IsPrefix}
use Rattle.dep_bag.specs.Bag.{bag_files}
use Rattle.dep_bag.specs.declared.export_fault.ExportFault.{ExportFault}
use Rattle.dep_bag.specs.declared.export_fault.ExportFault.TheVariants.{NoSuchObject, Sink, Store, Memory}

-- the folder of an object's bag, and its files in order
abbrev pub bag_transcript : Object → List ℕ
bag_transcript o = transcript (codes "data" ∷ []) (bag_files o)

-- the object is there, and this is so of it
abbrev pub OfObject : State → ℕ → (Object → Type 0) → Type 0
OfObject s n holds = (o : Object) × (map.get s.objects n ≡ Some o) × holds o

-- the sink was given a prefix of the bag
abbrev pub IsGivenInPart : State → ℕ → (given : List ℕ) → Type 0
IsGivenInPart s n given = OfObject s n (λ o. IsPrefix given (bag_transcript o))

-- what the sink was given
abbrev pub IsExported : {X : Type 0} → State → ℕ → (given : List ℕ) → Result X ExportFault
    → Type 0
IsExported s n given (Ok x) = OfObject s n (λ o. given ≡ bag_transcript o)
IsExported s n given (Err NoSuchObject) = (map.get s.objects n ≡ None) × (given ≡ [])
IsExported s n given (Err Sink) = IsGivenInPart s n given
IsExported s n given (Err Store) = (given ≡ []) ⊎ IsGivenInPart s n given
IsExported s n given (Err Memory) = (given ≡ []) ⊎ IsGivenInPart s n given
