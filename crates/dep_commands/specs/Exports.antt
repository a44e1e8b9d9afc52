-- What an export gives, by what the program says of it.
use Rattle.std.specs.Prelude.{◌≡◌, ◌⊎◌, ℕ, List, [], None}
use Rattle.std.specs.FinMap as map
use Rattle.dep_types.specs.State.{State}
use Rattle.dep_bag.specs.Exports.{OfObject, IsGivenInPart, bag_transcript}
use Rattle.dep_bag.specs.declared.export_fault.ExportFault.{ExportFault}
use Rattle.dep_bag.specs.declared.export_fault.ExportFault.TheVariants as fault
use Rattle.dep_program.specs.declared.outcome.Outcome.{Outcome}
use Rattle.dep_program.specs.declared.outcome.Outcome.TheVariants.{Done, Usage, NoSuchObject, StoreFault, TransferFault, Damaged}

-- The object's whole bag was given; or there is no such object, and nothing was; or the sink failed, and a front of the
-- bag was given; or the store failed, and a front of the bag was given, if anything.
abbrev pub Exports : State → (object : ℕ) → (given : List ℕ) → Outcome → Type 0
Exports s n given Done = OfObject s n (λ o. given ≡ bag_transcript o)
Exports s n given NoSuchObject = (map.get s.objects n ≡ None) × (given ≡ [])
Exports s n given TransferFault = IsGivenInPart s n given
Exports s n given StoreFault = (given ≡ []) ⊎ IsGivenInPart s n given
Exports s n given Usage = ⊥
Exports s n given Damaged = ⊥

-- how it ends that failed
abbrev pub outcome_of_export : ExportFault → Outcome
outcome_of_export fault.NoSuchObject = NoSuchObject
outcome_of_export fault.Sink = TransferFault
outcome_of_export fault.Store = StoreFault
outcome_of_export fault.Memory = StoreFault
