use Rattle.std.proofs.Common.{◌∙◌, ap, sym, subst}
use Rattle.std.proofs.lemmas.Result.{IfOk-from_err}
use Rattle.sqlite.specs.Effect.{Database}
use Rattle.dep_tables.specs.Tables.{tables_in, tables_of, HasOurTables, IsOurs}
use Rattle.dep_tables.specs.Edits.{with_state_row}
use Rattle.dep_tables.proofs.Chains.{clean_before, stays_err, stays_then}
use Rattle.dep_store.specs.Copying.{RewritesClock}
use Rattle.dep_store.proofs.Carrying.{ok_leaves}
use Rattle.dep_store.proofs.ticking.WriteClockTask.run.Goals as goal

pub returns-in_err-row : goal.returns-in_err-row
returns-in_err-row g c = record {
  made = λ clean inside ours. IfOk-from_err c.from_residual.result _ c.from_residual.ensures.0;
  stays = stays_err c.from_residual.ensures.0 c.in_err-row.ensures.does.keeps.stays;
}

pub returns : goal.returns
returns g c =
    let row = c.in_ok-row.row in
    let read = c.in_ok-row.ensures.does in
    let wrote = c.write_state.ensures.does in
    let old = g.T.Statements.state c.args.tx.now in
    let new = g.T.Statements.state c.write_state.new.tx in
    record {
      made = λ clean inside ours.
          let before = clean_before wrote.keeps.stays clean in
          let seen = (read.keeps.same before ours).0.now_is in
          ok_leaves {Q = IsOurs new × RewritesClock (tables_of old) (tables_of new)} c.write_state.result (wrote.ok clean (read.keeps.stays.inside before inside) (subst HasOurTables (sym seen) ours))
          (λ leads. (leads.ours, (row, read.ok before ours, leads.rows ∙ ap (λ (d : Database). with_state_row row (tables_in d.trees)) seen)));
      stays = stays_then read.keeps.stays wrote.keeps.stays;
    }
