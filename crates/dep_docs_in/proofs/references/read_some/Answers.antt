use Rattle.std.proofs.Common.{◌≡◌, ◌∙◌, ◌<◌, length, sym, subst, arith}
use Rattle.std.specs.Prelude.{slice_index_or}
use Rattle.std.proofs.lemmas.Result.{err_from_is_err_and}
use Rattle.dep_docs_in.specs.Faults.{IsUnreadable}
use Rattle.dep_docs_in.proofs.Parts.{grown, stopped}
use Rattle.dep_docs_in.proofs.references.read_some.Goals as goal

pub returns-in_err-reference_in-clause-err : goal.returns-in_err-reference_in-clause-err
returns-in_err-reference_in-clause-err c =
    let vs = c.args.entries.now in
    let front = c.loop-alloc.references.items in
    let v = c.index-entries-len.result in
    let within : length front < length vs = omega arith in
    let is : slice_index_or vs (length front) v ≡ v = subst (λ n. slice_index_or vs n v ≡ v) c.loop-alloc.references.ok.0 (rw c.len-in-loop-alloc-2.ensures at (sym c.index-entries-len.is)) in
    let p = err_from_is_err_and c.from_residual.result c.from_residual.ensures.1 in
    rw (p.1, p.2) (subst (IsUnreadable _) (sym c.loop-alloc.invariant) (stopped c.args.config.now.base vs v front _ within is c.in_err-reference_in.ensures))

pub loop-alloc-preserved : goal.loop-alloc-preserved
loop-alloc-preserved c =
    let vs = c.args.entries.now in
    let front = c.loop-alloc.references.items in
    let v = c.index-entries-len.result in
    let within : length front < length vs = omega arith in
    let is : slice_index_or vs (length front) v ≡ v = subst (λ n. slice_index_or vs n v ≡ v) c.loop-alloc.references.ok.0 (rw c.len-in-loop-alloc-2.ensures at (sym c.index-entries-len.is)) in
    c.loop-alloc.invariant
    ∙ grown c.args.config.now.base vs v front c.push.new.self.items c.in_ok-reference_in.field-0 within is c.in_ok-reference_in.ensures c.in_ok-push.ensures.items
