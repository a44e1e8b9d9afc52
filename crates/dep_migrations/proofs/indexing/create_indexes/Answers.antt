use Rattle.std.proofs.Common.{inl}
use Rattle.dep_tables.proofs.Results.{ok_then}
use Rattle.dep_tables.proofs.Chains.{clean_before}
use Rattle.dep_migrations.proofs.Causes.{works_behind, works_failed}
use Rattle.dep_migrations.proofs.MadeIndexes.{adds_files_index, adds_uploads_index}
use Rattle.dep_migrations.proofs.indexing.create_indexes.Goals as goal

pub returns-clause-adds : goal.returns-clause-adds
returns-clause-adds g c clean inside =
    let old = g.T.Statements.state c.args.tx.now in
    let mid = g.T.Statements.state c.run.new.self in
    let new = g.T.Statements.state c.run-2.new.self in
    let files = c.in_ok-run.ensures in
    let before = clean_before c.run-2.ensures.keeps.stays clean in
    let ran = files.runs before inside in
    ok_then c.run-2.result (c.run-2.ensures.runs clean (files.keeps.stays.inside before inside))
    (λ next. (mid.now, adds_files_index old mid ran.0 ran.1, adds_uploads_index mid new next.0 next.1))

pub returns-clause-works : goal.returns-clause-works
returns-clause-works g c = works_behind _ _ c.in_ok-run.ensures.keeps.stays c.run-2.ensures.keeps.stays c.in_ok-run.ensures.runs c.run-2.ensures.cause

pub returns-in_err-run-clause-works : goal.returns-in_err-run-clause-works
returns-in_err-run-clause-works g c =
    works_failed c.from_residual.result c.in_err-run.field-0.0 c.from_residual.ensures.0 c.from_residual.ensures.1 c.in_err-run.ensures.keeps.stays
    (λ clean inside. inl (c.in_err-run.ensures.cause clean inside))
