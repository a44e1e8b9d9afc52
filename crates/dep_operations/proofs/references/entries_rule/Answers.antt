use Rattle.std.proofs.Common.{◌∙◌, sym, refl}
use Rattle.dep_operations.proofs.Walked.{entries_reported, one}
use Rattle.dep_operations.proofs.references.entries_rule.Goals as goal

pub returns-in-Some : goal.returns-in-Some
returns-in-Some c =
    entries_reported c.args.view.now c.args.references.now _ _ _ _ _ _ _ _ refl
    (sym c.in-Some.is ∙ c.first_entry_refused.ensures) refl refl refl refl refl refl

pub returns-in-Some-first_entry_refused : goal.returns-in-Some-first_entry_refused
returns-in-Some-first_entry_refused c =
    entries_reported c.args.view.now c.args.references.now _ _ _ _ _ _ _ _ refl
    (sym c.in_default.is ∙ c.first_entry_refused.ensures) (sym c.in-Some-first_entry_refused.is ∙ c.first_entry_refused-2.ensures) refl refl refl refl refl

pub returns-then-branch : goal.returns-then-branch
returns-then-branch c =
    entries_reported c.args.view.now c.args.references.now _ _ _ _ _ _ _ _ refl
    (sym c.in_default.is ∙ c.first_entry_refused.ensures) (sym c.in_default-first_entry_refused.is ∙ c.first_entry_refused-2.ensures) (sym c.if-branch.true ∙ c.in_ok-occurs_twice.ensures) refl refl refl refl

pub returns-in-Some-first_refused : goal.returns-in-Some-first_refused
returns-in-Some-first_refused c =
    entries_reported c.args.view.now c.args.references.now _ _ _ _ _ _ _ _ c.as_slice-views.ensures
    (sym c.in_default.is ∙ c.first_entry_refused.ensures) (sym c.in_default-first_entry_refused.is ∙ c.first_entry_refused-2.ensures) (sym c.if-branch.false ∙ c.in_ok-occurs_twice.ensures) (sym c.in-Some-first_refused.is ∙ c.first_refused.ensures) refl refl refl

pub returns-in-Some-first_refused-2 : goal.returns-in-Some-first_refused-2
returns-in-Some-first_refused-2 c =
    entries_reported c.args.view.now c.args.references.now _ _ _ _ _ _ _ _ c.as_slice-views.ensures
    (sym c.in_default.is ∙ c.first_entry_refused.ensures) (sym c.in_default-first_entry_refused.is ∙ c.first_entry_refused-2.ensures) (sym c.if-branch.false ∙ c.in_ok-occurs_twice.ensures) (sym c.in_default-first_refused.is ∙ c.first_refused.ensures) (sym c.in-Some-first_refused-2.is ∙ c.first_refused-2.ensures) refl refl

pub returns-in-Some-first_refused-3 : goal.returns-in-Some-first_refused-3
returns-in-Some-first_refused-3 c =
    entries_reported c.args.view.now c.args.references.now _ _ _ _ _ _ _ _ c.as_slice-views.ensures
    (sym c.in_default.is ∙ c.first_entry_refused.ensures) (sym c.in_default-first_entry_refused.is ∙ c.first_entry_refused-2.ensures) (sym c.if-branch.false ∙ c.in_ok-occurs_twice.ensures) (sym c.in_default-first_refused.is ∙ c.first_refused.ensures) (sym c.in_default-first_refused-2.is ∙ c.first_refused-2.ensures) (sym c.in-Some-first_refused-3.is ∙ c.first_refused-3.ensures) refl

pub returns : goal.returns
returns c =
    sym (one c.first_refused-4.result)
    ∙ entries_reported c.args.view.now c.args.references.now _ _ _ _ _ _ _ _ c.as_slice-views.ensures
    (sym c.in_default.is ∙ c.first_entry_refused.ensures) (sym c.in_default-first_entry_refused.is ∙ c.first_entry_refused-2.ensures) (sym c.if-branch.false ∙ c.in_ok-occurs_twice.ensures) (sym c.in_default-first_refused.is ∙ c.first_refused.ensures) (sym c.in_default-first_refused-2.is ∙ c.first_refused-2.ensures) (sym c.in_default-first_refused-3.is ∙ c.first_refused-3.ensures) c.first_refused-4.ensures
