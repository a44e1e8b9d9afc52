-- An export that failed, as the program says it.
use Rattle.std.proofs.Common.{◌≡◌, ℕ, List, Err, refl}
use Rattle.dep_types.specs.State.{State}
use Rattle.dep_bag.specs.Exports.{IsExported}
use Rattle.dep_bag.specs.Giving.{IsCausedBy}
use Rattle.dep_bag.specs.declared.export_fault.ExportFault.{ExportFault}
use Rattle.dep_bag.specs.declared.export_fault.ExportFault.TheVariants as fault
use Rattle.dep_program.specs.declared.outcome.Outcome.TheVariants.{Done, NoSuchObject, StoreFault}
use Rattle.dep_commands.specs.Exports.{Exports, outcome_of_export}
use Rattle.dep_commands.specs.Reporting.{BlamesTransfer}
use Rattle.dep_commands.proofs.ReportLemmas.{no_transfer}

pub gives : (s : State) (object : ℕ) (given : List ℕ) (its : ExportFault) → IsExported {X = Unit {0}} s object given (Err its) → Exports s object given (outcome_of_export its)
gives s object given fault.NoSuchObject it = it
gives s object given fault.Sink it = it
gives s object given fault.Store it = it
gives s object given fault.Memory it = it

pub only_absent : (its : ExportFault) → outcome_of_export its ≡ NoSuchObject → its ≡ fault.NoSuchObject
only_absent fault.NoSuchObject said = refl
only_absent fault.Sink said = cc said
only_absent fault.Store said = cc said
only_absent fault.Memory said = cc said

pub never_done : (its : ExportFault) → outcome_of_export its ≡ Done → ⊥
never_done fault.NoSuchObject said = cc said
never_done fault.Sink said = cc said
never_done fault.Store said = cc said
never_done fault.Memory said = cc said

pub blames : (failures failures_after : ℕ) (its : ExportFault) → IsCausedBy its failures failures_after → BlamesTransfer failures failures_after (outcome_of_export its)
blames failures failures_after fault.NoSuchObject it = no_transfer _ _ NoSuchObject tt it
blames failures failures_after fault.Sink it = record { count = λ other. absurd (other refl); cause = λ said. it }
blames failures failures_after fault.Store it = no_transfer _ _ StoreFault tt it
blames failures failures_after fault.Memory it = no_transfer _ _ StoreFault tt it
