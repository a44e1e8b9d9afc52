-- What an audit of all files writes, by what the program says of it.
use Rattle.std.specs.Prelude.{◌≡◌, ◌⊎◌, ℕ, zero, suc, pos, List, [], ◌++◌, length, map, flat_map, filter, sum_by, All, codes, decimal}
use Rattle.sqlite.specs.declared.types.Value.TheVariants.{Int}
use Rattle.sqlite.specs.Order.{Row}
use Rattle.sqlite_trees.specs.Tree.{rowid}
use Rattle.dep_tables.specs.Rowids.{is_after}
use Rattle.dep_tables.specs.Tables.{Tables}
use Rattle.dep_types.specs.Sinks.{IsPrefix}
use Rattle.dep_schema.specs.declared.auditing.Audit.{Audit}
use Rattle.dep_schema.specs.Fixity.{IsAudited}
use Rattle.dep_program.specs.declared.outcome.Outcome.{Outcome}
use Rattle.dep_program.specs.declared.outcome.Outcome.TheVariants.{Done, Usage, NoSuchObject, StoreFault, TransferFault, Damaged}

-- an object, and what the audit of its files found
pub record Audited : Type 0 where
  pub object : ℕ
  pub audit : Audit

-- these are the objects of the rows, each with its audit
pub record AreAudits (t : Tables) (rows : List Row) (found : List Audited) : Type 0 where
  pub objects : map (λ a. Int (pos a.object)) found ≡ map rowid rows
  pub audits : All (λ a. IsAudited t a.object a.audit) found

-- the rows of the objects, whose numbers rise from 1 on
abbrev pub object_rows : Tables → List Row
object_rows t = filter (is_after 0) t.objects

-- a line of two numbers, each behind a text
abbrev pub two_numbers : (before : List ℕ) (first : ℕ) (between : List ℕ) (second : ℕ) → List ℕ
two_numbers before first between second =
    before ++ decimal first ++ between ++ decimal second ++ codes "\n"

abbrev pub damaged_line : (object file : ℕ) → List ℕ
damaged_line object file = two_numbers (codes "damaged ") object (codes " ") file

abbrev pub damaged_lines : Audited → List ℕ
damaged_lines a = flat_map (damaged_line a.object) a.audit.damaged.items

-- a line for each damaged file
abbrev pub audit_lines : List Audited → List ℕ
audit_lines found = flat_map damaged_lines found

abbrev pub checked_in : List Audited → ℕ
checked_in found = sum_by (λ a. a.audit.checked) found

abbrev pub damaged_in : List Audited → ℕ
damaged_in found = sum_by (λ a. length a.audit.damaged.items) found

abbrev pub count_line : (checked damaged : ℕ) → List ℕ
count_line checked damaged = two_numbers (codes "files ") checked (codes " damaged ") damaged

abbrev pub audit_text : List Audited → List ℕ
audit_text found = audit_lines found ++ count_line (checked_in found) (damaged_in found)

abbrev pub outcome_of_audit : (damaged : ℕ) → Outcome
outcome_of_audit zero = Done
outcome_of_audit (suc n) = Damaged

-- all objects were audited, and what was written are the lines of their damaged files, and the count
pub record AuditIsWhole (t : Tables) (written : List ℕ) (outcome : Outcome) : Type 0 where
  pub found : List Audited
  pub are : AreAudits t (object_rows t) found
  pub text : written ≡ audit_text found
  pub comes : outcome ≡ outcome_of_audit (damaged_in found)

-- the first objects were audited, and what was written is a front of the lines of their damaged files; of the count
-- only where these are all objects
pub record HasAuditedSome (t : Tables) (written : List ℕ) : Type 0 where
  pub rows : List Row
  pub others : List Row
  pub first : object_rows t ≡ rows ++ others
  pub found : List Audited
  pub are : AreAudits t rows found
  pub front : IsPrefix written (audit_lines found) ⊎ ((others ≡ []) × IsPrefix written (audit_text found))

-- what an audit writes of these tables, by how it ends
abbrev pub Audits : Tables → (written : List ℕ) → Outcome → Type 0
Audits t written Done = AuditIsWhole t written Done
Audits t written Damaged = AuditIsWhole t written Damaged
Audits t written StoreFault = HasAuditedSome t written
Audits t written TransferFault = HasAuditedSome t written
Audits t written Usage = ⊥
Audits t written NoSuchObject = ⊥
