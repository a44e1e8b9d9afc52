use Rattle.std.proofs.Common.{◌∙◌, sym, ap, subst, string_bytes}
use Rattle.std.proofs.lemmas.Result.{err_from_is_err_and}
use Rattle.serde_json.specs.View.{view, members_view}
use Rattle.dep_types.specs.Names.{is_kept_name}
use Rattle.dep_docs_in.specs.Documents.{kept_texts}
use Rattle.dep_docs_in.specs.Faults.{IsUnreadable}
use Rattle.dep_docs_in.proofs.Keeping.{member_kept, member_passed, member_fails}
use Rattle.dep_docs_in.proofs.metadata.kept.Goals as goal

pub loop-name-preserved-in-Continue-1 : goal.loop-name-preserved-in-Continue-1
loop-name-preserved-in-Continue-1 c =
    let is = ap is_kept_name (sym c.as_bytes.ensures.value) ∙ sym c.is_kept_name.ensures ∙ c.if-is_kept_name.true in
    c.loop-name.invariant
    ∙ ap (λ l. kept_texts c.loop-name.metadata (members_view l)) c.in-Some.ensures.steps
    ∙ member_kept (string_bytes c.in-Some.name.now) (view c.in-Some.value.now) c.loop-name.metadata c.keep.new.metadata (members_view c.next.new.self) is (rw c.deref.ensures at c.in_ok-keep.ensures)

pub returns-in_err-keep : goal.returns-in_err-keep
returns-in_err-keep c =
    let is = ap is_kept_name (sym c.as_bytes.ensures.value) ∙ sym c.is_kept_name.ensures ∙ c.if-is_kept_name.true in
    let p = err_from_is_err_and c.from_residual.result c.from_residual.ensures.1 in
    let so_far = c.loop-name.invariant ∙ ap (λ l. kept_texts c.loop-name.metadata (members_view l)) c.in-Some.ensures.steps in
    rw (p.1, p.2) (subst (IsUnreadable _) (sym so_far)
    (member_fails (string_bytes c.in-Some.name.now) (view c.in-Some.value.now) c.loop-name.metadata (members_view c.next.new.self) _ is (rw c.deref.ensures at c.in_err-keep.ensures)))

pub loop-name-preserved : goal.loop-name-preserved
loop-name-preserved c =
    let is = ap is_kept_name (sym c.as_bytes.ensures.value) ∙ sym c.is_kept_name.ensures ∙ c.if-is_kept_name.false in
    c.loop-name.invariant
    ∙ ap (λ l. kept_texts c.loop-name.metadata (members_view l)) c.in-Some.ensures.steps
    ∙ member_passed (string_bytes c.in-Some.name.now) (view c.in-Some.value.now) c.loop-name.metadata (members_view c.next.new.self) is

pub returns : goal.returns
unfolding kept_texts
returns c = c.loop-name.invariant ∙ ap (λ l. kept_texts c.loop-name.metadata (members_view l)) c.in-None.ensures.steps.0
