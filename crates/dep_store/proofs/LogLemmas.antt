-- When a commit of work ahead is due.
use Rattle.std.proofs.Common.{◌≡◌, ◌⊎◌, ◌∙◌, inl, inr, zero, suc, Bool, true, false, Option, None, Some, Ok, if◌then◌else◌, refl, sym, ap, subst}
use Rattle.std.specs.Prelude.{not, ◌&&◌, ◌||◌, is_some, nat_le, length}
use Rattle.dep_types.specs.Conditions.{Condition}
use Rattle.dep_types.specs.Methods.{is_safe}
use Rattle.dep_types.specs.declared.refusal.Refusal.{Refusal}
use Rattle.dep_decisions.specs.declared.operation.Operation.{Operation}
use Rattle.dep_answers.specs.declared.performed.Performed.{Performed}
use Rattle.dep_exchange.specs.Archives.{KeepsAll, CommitsIfDue, FallsDue}
use Rattle.dep_fields.specs.Kinds.{is_by_reference}
use Rattle.dep_store.specs.LogCopies.{writes_much, after_call, has_call}
use Rattle.dep_store.specs.declared.log_copy.LogCopy.{LogCopy}
use Rattle.dep_store.specs.declared.log_copy.LogCopy.TheVariants.{NotDue, DueAfter}

noted : (safe much : Bool) (refusal : Option Refusal) (old new : LogCopy)
    → new ≡ (if (not safe && much) && not (is_some refusal) then DueAfter 3 else old)
    → has_call new ≡ true → (has_call old ≡ true) ⊎ ((safe ≡ false) × (refusal ≡ None))
noted true much refusal old new is due = inl (sym (ap has_call is) ∙ due)
noted false false refusal old new is due = inl (sym (ap has_call is) ∙ due)
noted false true None old new is due = inr (refl, refl)
noted false true (Some r) old new is due = inl (sym (ap has_call is) ∙ due)

-- a request that was noted made the log long, or nothing fell due
pub note_falls_due : (E : Type 0) (op : Operation) (p : Performed) (old new : LogCopy)
    → new ≡ (if writes_much op && not (is_some p.refusal) then DueAfter 3 else old)
    → FallsDue {E = E} (has_call old) (has_call new) op (Ok p)
note_falls_due E op p old new is due =
    noted (is_safe op.target.method) (nat_le 4194304 (length op.content) || is_by_reference op.fields.disposition) p.refusal old new is due

-- a call in which the log was copied
pub copy_commits : (log : LogCopy) (old new : Condition) → log ≡ DueAfter 0 → CommitsIfDue (has_call log) (has_call (after_call log)) old new
copy_commits NotDue old new e = cc
copy_commits (DueAfter zero) old new e = inr refl
copy_commits (DueAfter (suc calls)) old new e = cc

-- a call that left all as it was
call_commits : (log : LogCopy) (old new : Condition) → KeepsAll old new → CommitsIfDue (has_call log) (has_call (after_call log)) old new
call_commits NotDue old new keeps = (keeps, refl)
call_commits (DueAfter zero) old new keeps = inl keeps
call_commits (DueAfter (suc calls)) old new keeps = inl keeps

-- and had no copy to make
pub ahead_commits : (log later : LogCopy) (old new : Condition) → later ≡ after_call log → KeepsAll old new → CommitsIfDue (has_call log) (has_call later) old new
ahead_commits log later old new counted keeps = subst (λ (l : LogCopy). CommitsIfDue (has_call log) (has_call l) old new) (sym counted) (call_commits log old new keeps)
