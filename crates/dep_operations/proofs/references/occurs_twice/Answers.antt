use Rattle.std.proofs.Common.{◌∙◌, List, nat_cmp, sym, ap, refl}
use Rattle.std.proofs.lemmas.List.{nil_from_length}
use Rattle.std.specs.BTreeSet.{contains}
use Rattle.std.specs.List.{cons_option}
use Rattle.dep_docs_in.specs.declared.reference.Pointed.{Pointed}
use Rattle.dep_docs_in.specs.declared.reference.Reference.{Reference}
use Rattle.dep_decisions.specs.Decisions.{upload_number}
use Rattle.dep_operations.specs.Views.{uploads_named}
use Rattle.dep_operations.specs.Walks.{stands_again}
use Rattle.dep_operations.proofs.Repeats.{again_empty, again_found, again_from_start, again_more, not_false, not_true}
use Rattle.dep_operations.proofs.references.occurs_twice.Goals as goal

pub loop-reference-init : goal.loop-reference-init
loop-reference-init c = again_from_start (contains nat_cmp c.new-named.result) (uploads_named c.args.references.now) (λ k. let e = c.new-named.ensures.empty in rw e refl)

pub returns-then-not-branch : goal.returns-then-not-branch
returns-then-not-branch c =
    let held = not_false _ (sym c.if-not-branch.true ∙ c.in_ok-insert.ensures.added) in
    sym (c.loop-reference.invariant ∙ ap (λ (l : List Reference). stands_again (contains nat_cmp c.loop-reference.named) (uploads_named l)) c.in-Some.ensures.cases.0
    ∙ ap (λ (t : Pointed). stands_again (contains nat_cmp c.loop-reference.named) (cons_option (upload_number t) (uploads_named c.in-Some.behind.now))) c.in-Upload.is
    ∙ again_found _ c.in-Upload.upload _ held)

pub loop-reference-preserved-else-not-branch : goal.loop-reference-preserved-else-not-branch
loop-reference-preserved-else-not-branch c =
    let other = not_true _ (sym c.if-not-branch.false ∙ c.in_ok-insert.ensures.added) in
    c.loop-reference.invariant ∙ ap (λ (l : List Reference). stands_again (contains nat_cmp c.loop-reference.named) (uploads_named l)) c.in-Some.ensures.cases.0
    ∙ ap (λ (t : Pointed). stands_again (contains nat_cmp c.loop-reference.named) (cons_option (upload_number t) (uploads_named c.in-Some.behind.now))) c.in-Upload.is
    ∙ again_more _ _ c.in-Upload.upload _ other (λ k. c.in_ok-insert.ensures.updates.0 k)

pub returns : goal.returns
returns c =
    sym (c.loop-reference.invariant ∙ ap (λ l. stands_again (contains nat_cmp c.loop-reference.named) (uploads_named l)) (nil_from_length _ c.in_default.ensures.cases)
    ∙ again_empty (contains nat_cmp c.loop-reference.named))
