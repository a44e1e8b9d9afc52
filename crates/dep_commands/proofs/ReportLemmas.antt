-- What was told of objects, one after another.
use Rattle.std.proofs.Common.{◌≡◌, ◌⊎◌, inl, inr, ℕ, zero, suc, ◌<◌, ◌≤◌, ◌+◌, ◌^◌, pos, List, [], ◌∷◌, ◌++◌, length, length-append, flat_map, Option, Some, None, refl, sym, ap, ap₂, subst, ◌∙◌, append_assoc, append-nil, arith}
use Rattle.std.specs.Prelude.{⊤, find, filter, Result, Ok, Err, IsErrAnd}
use Rattle.std.proofs.lemmas.List.Elements.{All-nil, All-cons, All-append}
use Rattle.std.proofs.lemmas.List.{map-append}
use Rattle.std.proofs.lemmas.List.Sums.{sum_by_push}
use Rattle.std.proofs.lemmas.Grind.{flat_map-append}
use Rattle.sqlite.specs.declared.types.Value.TheVariants.{Int}
use Rattle.sqlite.specs.Order.{Row}
use Rattle.sqlite_trees.specs.Tree.{rowid}
use Rattle.dep_tables.specs.Rowids.{is_after, IsOrdered}
use Rattle.dep_tables.specs.Tables.{Tables}
use Rattle.dep_tables.specs.Edits.{IsObjectAfter}
use Rattle.sqlite.specs.State.{State}
use Rattle.dep_transactions.specs.OpenTables.{StaysFile}
use Rattle.dep_types.specs.Sinks.{IsPrefix}
use Rattle.dep_schema.specs.Faults.{BlamesOutlet}
use Rattle.dep_schema.specs.Fixity.{IsAudited}
use Rattle.dep_commands.specs.Audits.{Audited, AreAudits, object_rows, damaged_line, damaged_lines, audit_lines, checked_in, damaged_in, count_line, audit_text, outcome_of_audit, AuditIsWhole, HasAuditedSome, Audits}
use Rattle.dep_commands.specs.Reporting.{BlamesTransfer, AuditsObject, IsPartOfObject, AuditIsReported, IsReportedTo, ReportsAudit, ReportsObjects, outcome_of_fault}
use Rattle.dep_commands.specs.declared.audit_fault.AuditFault.{AuditFault}
use Rattle.dep_schema.specs.declared.auditing.Audit.{Audit}
use Rattle.dep_commands.specs.declared.tally.Tally.{Tally}
use Rattle.dep_program.specs.declared.outcome.Outcome.{Outcome}
use Rattle.dep_program.specs.declared.outcome.Outcome.TheVariants.{Damaged, TransferFault}
use Rattle.dep_commands.specs.declared.audit_fault.AuditFault.TheVariants.{Store, Writer}
use Rattle.dep_schema.proofs.Walks.{next_row, no_row, none_found, row_found}

-- the rows of the objects rise
pub objects_rise : {d : State} {t : Tables} → StaysFile d t → IsOrdered t.objects
objects_rise represents = subst (λ (t : Tables). IsOrdered t.objects) represents.rows represents.ours.trees.ordered.1.1.0

pub whole_front : (xs : List ℕ) → IsPrefix xs xs
whole_front xs = record { rest = []; joined = sym (append-nil xs) }

more_front : (xs part whole : List ℕ) → IsPrefix part whole → IsPrefix (xs ++ part) (xs ++ whole)
more_front xs part whole f = record { rest = f.rest; joined = ap (λ l. xs ++ l) f.joined ∙ sym (append_assoc xs part f.rest) }

lines_more : (found : List Audited) (a : Audited) → audit_lines (found ++ a ∷ []) ≡ audit_lines found ++ damaged_lines a
lines_more found a = flat_map-append damaged_lines found (a ∷ []) ∙ ap (λ l. audit_lines found ++ l) (append-nil (damaged_lines a))

audits_more : (t : Tables) (rows : List Row) (found : List Audited) (r : Row) (a : Audited) → AreAudits t rows found
    → Int (pos a.object) ≡ rowid r → IsAudited t a.object a.audit → AreAudits t (rows ++ r ∷ []) (found ++ a ∷ [])
audits_more t rows found r a h same audited = record {
  objects = map-append (λ (b : Audited). Int (pos b.object)) found (a ∷ [])
      ∙ ap₂ (λ xs v. xs ++ v ∷ []) h.objects same ∙ sym (map-append rowid rows (r ∷ []));
  audits = All-append (λ (b : Audited). IsAudited t b.object b.audit) found (a ∷ []) h.audits
      (All-cons (λ (b : Audited). IsAudited t b.object b.audit) a [] audited (All-nil (λ (b : Audited). IsAudited t b.object b.audit)));
}

-- so many objects were told
abbrev pub IsCounted : Tables → (after : ℕ) → (written : List ℕ) → Tally → (count : ℕ) → Type 0
IsCounted t after written tally count = (reported : IsReportedTo t after written tally) × (length reported.rows ≡ count)

-- nothing was told yet
pub reported_none : (t : Tables) (tally : Tally) → tally.checked ≡ 0 → tally.damaged ≡ 0 → IsCounted t 0 [] tally 0
reported_none t tally checked damaged = (
  record {
    rows = [];
    first = refl;
    reported = record {
      found = [];
      are = record { objects = refl; audits = All-nil (λ (b : Audited). IsAudited t b.object b.audit) };
      lines = refl;
      checked = checked;
      damaged = damaged;
    };
  },
  refl,
)

-- it ended between two objects
abbrev pub reported_so_far : (t : Tables) (after : ℕ) (written : List ℕ) (tally : Tally) → IsReportedTo t after written tally → HasAuditedSome t written
reported_so_far t after written tally h = record {
  rows = h.rows;
  others = filter (is_after after) t.objects;
  first = h.first;
  found = h.reported.found;
  are = h.reported.are;
  front = inl (subst (λ l. IsPrefix l (audit_lines h.reported.found)) (sym h.reported.lines) (whole_front (audit_lines h.reported.found)));
}

module _ (t : Tables) (ordered : IsOrdered t.objects) (after n : ℕ) (written : List ℕ) (tally : Tally)
    (reported : IsReportedTo t after written tally) (next : IsObjectAfter after t (Some n)) where
  the_row : (row : Row) × (find (is_after after) t.objects ≡ Some row) × (rowid row ≡ Int (pos n))
  the_row = row_found n (find (is_after after) t.objects) next

  first_now : object_rows t ≡ (reported.rows ++ the_row.0 ∷ []) ++ filter (is_after n) t.objects
  first_now = reported.first
      ∙ ap (λ l. reported.rows ++ l) (next_row after n the_row.0 t.objects ordered.0 the_row.1 the_row.2)
      ∙ sym (append_assoc reported.rows (the_row.0 ∷ []) (filter (is_after n) t.objects))

  -- what is told of the next object
  abbrev with_next : Audit → List Audited
  with_next audit = reported.reported.found ++ record { object = n; audit = audit } ∷ []

  sums : (more : List ℕ) (its : Tally) (h : AuditsObject t n more its) → (tally.checked + its.checked ≡ checked_in (with_next h.audit)) × (tally.damaged + its.damaged ≡ damaged_in (with_next h.audit))
  sums more its h = (
    ap₂ (λ x y. x + y) reported.reported.checked h.checked ∙ sym (sum_by_push (λ (b : Audited). b.audit.checked) reported.reported.found (record { object = n; audit = h.audit })),
    ap₂ (λ x y. x + y) reported.reported.damaged h.damaged ∙ sym (sum_by_push (λ (b : Audited). length b.audit.damaged.items) reported.reported.found (record { object = n; audit = h.audit })),
  )

  -- the lines of the next object were written too
  pub reported_more : (more : List ℕ) (its sum : Tally) (count : ℕ) → AuditsObject t n more its → sum.checked ≡ tally.checked + its.checked
      → sum.damaged ≡ tally.damaged + its.damaged → length reported.rows ≡ count → IsCounted t n (written ++ more) sum (count + 1)
  reported_more more its sum count h checked damaged counted =
      let all = reported.reported in
      let a : Audited = record { object = n; audit = h.audit } in (
        record {
          rows = reported.rows ++ the_row.0 ∷ [];
          first = first_now;
          reported = record {
            found = all.found ++ a ∷ [];
            are = audits_more t reported.rows all.found the_row.0 a all.are (sym the_row.2) h.audited;
            lines = ap₂ (λ xs ys. xs ++ ys) all.lines h.lines ∙ sym (lines_more all.found a);
            checked = checked ∙ (sums more its h).0;
            damaged = damaged ∙ (sums more its h).1;
          };
        },
        length-append reported.rows (the_row.0 ∷ []) ∙ ap (λ k. k + 1) counted,
      )

  -- a front of them was written
  abbrev reported_part : (part : List ℕ) → IsPartOfObject t n part → HasAuditedSome t (written ++ part)
  reported_part part h =
      let all = reported.reported in
      let a : Audited = record { object = n; audit = h.audit } in
      let front : IsPrefix (written ++ part) (audit_lines (all.found ++ a ∷ [])) = subst (IsPrefix (written ++ part)) (ap (λ l. l ++ damaged_lines a) all.lines ∙ sym (lines_more all.found a)) (more_front written part (damaged_lines a) h.front) in
      record {
        rows = reported.rows ++ the_row.0 ∷ [];
        others = filter (is_after n) t.objects;
        first = first_now;
        found = all.found ++ a ∷ [];
        are = audits_more t reported.rows all.found the_row.0 a all.are (sym the_row.2) h.audited;
        front = inl front;
      }

  pub objects_fail : (more : List ℕ) (fault : AuditFault) → IsPartOfObject t n more → (result : Result (Option Tally) AuditFault)
      → IsErrAnd result (λ x. x ≡ fault) → ReportsObjects t (written ++ more) result
  objects_fail more fault part (Ok x) err = absurd err
  objects_fail more fault part (Err e) err = reported_part more part

  -- a sum passes 64 bits
  pub sum_passes : (more : List ℕ) (its : Tally) → AuditsObject t n more its → (2 ^ 64 ≤ tally.checked + its.checked) ⊎ (2 ^ 64 ≤ tally.damaged + its.damaged)
      → ReportsObjects t (written ++ more) (Ok None)
  sum_passes more its h many = (
    reported_part more (record { audit = h.audit; audited = h.audited; front = record { rest = []; joined = sym h.lines ∙ sym (append-nil more) } }),
    inr (elim many [
      | inl checked ↦ inl (subst (λ k. 2 ^ 64 ≤ k) (sums more its h).0 checked)
      | inr damaged ↦ inr (subst (λ k. 2 ^ 64 ≤ k) (sums more its h).1 damaged)
    ]),
  )

-- all objects were told
pub reported_all : (t : Tables) (after : ℕ) (written : List ℕ) (tally : Tally) → IsReportedTo t after written tally → IsObjectAfter after t None
    → AuditIsReported t (object_rows t) written tally
reported_all t after written tally h none =
    let rows_are : object_rows t ≡ h.rows = h.first ∙ ap (λ l. h.rows ++ l) (no_row after t.objects (none_found (find (is_after after) t.objects) none)) ∙ append-nil h.rows in
    subst (λ (rows : List Row). AuditIsReported t rows written tally) (sym rows_are) h.reported

module _ (t : Tables) (written : List ℕ) (tally : Tally) (h : AuditIsReported t (object_rows t) written tally) where
  text_is : written ++ count_line tally.checked tally.damaged ≡ audit_text h.found
  text_is = ap₂ (λ xs ys. xs ++ ys) h.lines (ap₂ count_line h.checked h.damaged)

  pub all_whole : (outcome : Outcome) → outcome ≡ outcome_of_audit tally.damaged → AuditIsWhole t (written ++ count_line tally.checked tally.damaged) outcome
  all_whole outcome is = record { found = h.found; are = h.are; text = text_is; comes = is ∙ ap outcome_of_audit h.damaged }

  pub all_begun : (part : List ℕ) → IsPrefix part (count_line tally.checked tally.damaged) → HasAuditedSome t (written ++ part)
  all_begun part f = record {
    rows = object_rows t;
    others = [];
    first = sym (append-nil (object_rows t));
    found = h.found;
    are = h.are;
    front = inr (refl, subst (IsPrefix (written ++ part)) text_is (more_front written part _ f));
  }

-- one object
pub reported_object : (t : Tables) (object : ℕ) (a : Audit) (files written : List ℕ) (tally : Tally) → IsAudited t object a → files ≡ a.damaged.items
    → written ≡ flat_map (damaged_line object) files → tally.checked ≡ a.checked → tally.damaged ≡ length a.damaged.items → AuditsObject t object written tally
reported_object t object a files written tally audited same is checked damaged =
    record { audit = a; audited = audited; lines = is ∙ ap (flat_map (damaged_line object)) same; checked = checked; damaged = damaged }

pub object_fails : (t : Tables) (object : ℕ) (a : Audit) (files written : List ℕ) → IsAudited t object a → files ≡ a.damaged.items
    → IsPrefix written (flat_map (damaged_line object) files) → (fault : AuditFault) (result : Result Tally AuditFault) → IsErrAnd result (λ x. x ≡ fault)
    → ReportsAudit t object written result
object_fails t object a files written audited same front fault (Ok x) err = absurd err
object_fails t object a files written audited same front fault (Err e) err =
    record { audit = a; audited = audited; front = subst (λ (l : List ℕ). IsPrefix written (flat_map (damaged_line object) l)) same front }

-- what the program says
pub is_damaged : (damaged : ℕ) → 0 < damaged → Damaged ≡ outcome_of_audit damaged
is_damaged zero some = absurd (omega arith)
is_damaged (suc n) some = refl

pub fault_begun : (t : Tables) (written : List ℕ) (fault : AuditFault) (outcome : Outcome) → outcome ≡ outcome_of_fault fault → HasAuditedSome t written → Audits t written outcome
fault_begun t written Store outcome is so_far = subst (Audits t written) (sym is) so_far
fault_begun t written Writer outcome is so_far = subst (Audits t written) (sym is) so_far

-- whether the transfer failed
abbrev pub IsOther : Outcome → Type 0
IsOther TransferFault = ⊥
IsOther outcome = ⊤

pub no_transfer : (failures failures_after : ℕ) (outcome : Outcome) → IsOther outcome → failures_after ≡ failures → BlamesTransfer failures failures_after outcome
no_transfer failures failures_after outcome other same = record { count = λ its. same; cause = λ said. absurd (subst IsOther said other) }

pub transfer_of : {X : Type 0} (failures failures_after : ℕ) (fault : AuditFault) (outcome : Outcome) → outcome ≡ outcome_of_fault fault
    → BlamesOutlet {A = X} Writer failures failures_after (Err fault) → BlamesTransfer failures failures_after outcome
transfer_of failures failures_after Store outcome is it = no_transfer failures failures_after outcome (subst IsOther (sym is) tt) (it.others (λ said. cc said))
transfer_of failures failures_after Writer outcome is it = record { count = λ other. absurd (other is); cause = λ said. it.cause refl }

pub begun_fails : (t : Tables) (written : List ℕ) → HasAuditedSome t written → (fault : AuditFault) (result : Result (Option Tally) AuditFault) → IsErrAnd result (λ x. x ≡ fault)
    → ReportsObjects t written result
begun_fails t written so_far fault (Ok x) err = absurd err
begun_fails t written so_far fault (Err e) err = so_far
