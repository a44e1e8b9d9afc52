-- What is to be written so far, and how far it was written.
use Rattle.std.specs.Prelude.{◌≡◌, ◌≢◌, ◌⊎◌, ℕ, ◌≤◌, ◌-◌, ◌^◌, List, ◌++◌, length, filter, Option, Some, None, Result, Ok, Err}
use Rattle.std.specs.Io.KnownBytes.{Appends}
use Rattle.sqlite.specs.State as db
use Rattle.sqlite.specs.Order.{Row}
use Rattle.dep_tables.specs.Rowids.{is_after}
use Rattle.dep_tables.specs.Tables.{Tables}
use Rattle.dep_types.specs.Sinks.{IsPrefix}
use Rattle.dep_transactions.specs.OpenTables.{StaysFile}
use Rattle.dep_types.specs.Writing.{HasRisen}
use Rattle.dep_schema.specs.Faults.{BlamesOutlet}
use Rattle.dep_schema.specs.Fixity.{IsAudited}
use Rattle.dep_schema.specs.declared.auditing.Audit.{Audit}
use Rattle.dep_store.specs.Staying.{KeepsTables}
use Rattle.dep_commands.specs.Audits.{Audited, AreAudits, object_rows, damaged_lines, audit_lines, checked_in, damaged_in, HasAuditedSome}
use Rattle.dep_commands.specs.declared.audit_fault.AuditFault.{AuditFault}
use Rattle.dep_commands.specs.declared.audit_fault.AuditFault.TheVariants.{Store, Writer}
use Rattle.dep_program.specs.declared.outcome.Outcome.{Outcome}
use Rattle.dep_program.specs.declared.outcome.Outcome.TheVariants.{StoreFault, TransferFault}
use Rattle.dep_commands.specs.declared.tally.Tally.{Tally}

-- all of a text was written, or after a fault a front of it
abbrev pub IsWritten : {X : Type 0} → (whole written : List ℕ) → Result X AuditFault → Type 0
IsWritten whole written (Ok x) = written ≡ whole
IsWritten whole written (Err fault) = IsPrefix written whole

-- what the program says of it
abbrev pub outcome_of_fault : AuditFault → Outcome
outcome_of_fault Store = StoreFault
outcome_of_fault Writer = TransferFault

-- a text was written so far as the result says
abbrev pub WritesText : {X : Type 0} → (taken takes : Option (List ℕ)) → (whole : List ℕ)
    → Result X AuditFault → Type 0
WritesText taken takes whole result =
    (written : List ℕ) × Appends taken takes written × IsWritten whole written result

-- this was written of each tables that the store has, whether they represent a state or not
abbrev pub WritesOf : (old new : db.State) → (taken takes : Option (List ℕ))
    → (Tables → (written : List ℕ) → Type 0) → Type 0
WritesOf old new taken takes reported = (written : List ℕ) × Appends taken takes written
    × (db.HasCleanDisk new → (t : Tables) → StaysFile old t → reported t written)

-- a text was written so far as the result says, and the writer failed where that is returned, and nowhere else
pub record WritesTo {W X : Type 0} (taken : W → Option (List ℕ)) (failures : W → ℕ) (before after : W)
    (whole : List ℕ) (result : Result X AuditFault) : Type 0 where
  pub writes : WritesText (taken before) (taken after) whole result
  pub blames : BlamesOutlet Writer (failures before) (failures after) result

-- so is what was written of the tables that the store has, which stay
pub record WritesReport {W X : Type 0} (old new : db.State) (taken : W → Option (List ℕ))
    (failures : W → ℕ) (before after : W) (result : Result X AuditFault)
    (reported : Tables → (written : List ℕ) → Result X AuditFault → Type 0) : Type 0 where
  pub writes : WritesOf old new (taken before) (taken after) (λ t written. reported t written result)
  pub stays : KeepsTables old new
  pub blames : BlamesOutlet Writer (failures before) (failures after) result

-- the same by what the program says: the transfer failed
pub record BlamesTransfer (failures failures_after : ℕ) (outcome : Outcome) : Type 0 where
  pub count : outcome ≢ TransferFault → failures_after ≡ failures
  pub cause : outcome ≡ TransferFault → HasRisen failures failures_after

-- the lines of an object were written
pub record AuditsObject (t : Tables) (object : ℕ) (written : List ℕ) (tally : Tally) : Type 0 where
  pub audit : Audit
  pub audited : IsAudited t object audit
  pub lines : written ≡ damaged_lines (record { object = object; audit = audit })
  pub checked : tally.checked ≡ audit.checked
  pub damaged : tally.damaged ≡ length audit.damaged.items

-- a front of them was
pub record IsPartOfObject (t : Tables) (object : ℕ) (written : List ℕ) : Type 0 where
  pub audit : Audit
  pub audited : IsAudited t object audit
  pub front : IsPrefix written (damaged_lines (record { object = object; audit = audit }))

abbrev pub ReportsAudit : Tables → (object : ℕ) → (written : List ℕ) → Result Tally AuditFault → Type 0
ReportsAudit t object written (Ok tally) = AuditsObject t object written tally
ReportsAudit t object written (Err fault) = IsPartOfObject t object written

-- the objects up to this number were audited, and their lines were written
pub record AuditIsReported (t : Tables) (rows : List Row) (written : List ℕ) (tally : Tally) : Type 0 where
  pub found : List Audited
  pub are : AreAudits t rows found
  pub lines : written ≡ audit_lines found
  pub checked : tally.checked ≡ checked_in found
  pub damaged : tally.damaged ≡ damaged_in found

pub record IsReportedTo (t : Tables) (after : ℕ) (written : List ℕ) (tally : Tally) : Type 0 where
  pub rows : List Row
  pub first : object_rows t ≡ rows ++ filter (is_after after) t.objects
  pub reported : AuditIsReported t rows written tally

-- so many objects, or files of them, that 64 bits don't count them
abbrev pub IsUncounted : {t : Tables} {written : List ℕ} → HasAuditedSome t written → Type 0
IsUncounted begun = (2 ^ 64 - 1 ≤ length begun.rows)
    ⊎ ((2 ^ 64 ≤ checked_in begun.found) ⊎ (2 ^ 64 ≤ damaged_in begun.found))

abbrev pub ReportsObjects : Tables → (written : List ℕ) → Result (Option Tally) AuditFault → Type 0
ReportsObjects t written (Ok (Some tally)) = AuditIsReported t (object_rows t) written tally
ReportsObjects t written (Ok None) = (begun : HasAuditedSome t written) × IsUncounted begun
ReportsObjects t written (Err fault) = HasAuditedSome t written
