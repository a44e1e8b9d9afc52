use Rattle.std.proofs.Common.{inl, inr}
use Rattle.dep_tables.proofs.Chains.{clean_before, stays_then}
use Rattle.dep_migrations.proofs.BesideRows.{gains, free_before, first_seen}
use Rattle.dep_tables.proofs.Results.{if_err}
use Rattle.dep_migrations.proofs.Causes.{works_failed}
use Rattle.dep_migrations.proofs.making.make_tables.Goals as goal

pub returns-clause-gains : goal.returns-clause-gains
returns-clause-gains g c clean inside =
    let old = g.T.Statements.state c.args.tx.now in
    let mid = g.T.Statements.state c.create_tables.new.tx in
    let named = g.T.Statements.state c.create_indexes.new.tx in
    let new = g.T.Statements.state c.add_rows.new.tx in
    let made = c.in_ok-create_tables.ensures in
    let both = c.in_ok-create_indexes.ensures in
    let clean_named = clean_before c.add_rows.ensures.works.stays clean in
    let clean_mid = clean_before both.works.stays clean_named in
    let inside_mid = made.works.stays.inside clean_mid inside in
    gains c.add_rows.result old.now mid.now named.now new.now (made.adds clean_mid inside) (both.adds clean_named inside_mid) (c.add_rows.ensures.beside clean (both.works.stays.inside clean_named inside_mid))

pub returns-clause-ok : goal.returns-clause-ok
returns-clause-ok g c clean inside empty =
    first_seen c.add_rows.result (g.T.Statements.state c.args.tx.now) (g.T.Statements.state c.add_rows.new.tx) empty (returns-clause-gains g c clean inside)

pub returns-clause-works : goal.returns-clause-works
returns-clause-works g c = record {
  cause = λ clean inside.
      let made = c.in_ok-create_tables.ensures in
      let both = c.in_ok-create_indexes.ensures in
      let clean_named = clean_before c.add_rows.ensures.works.stays clean in
      let clean_mid = clean_before both.works.stays clean_named in
      let inside_mid = made.works.stays.inside clean_mid inside in
      if_err c.add_rows.result (c.add_rows.ensures.works.cause clean (both.works.stays.inside clean_named inside_mid))
      (λ fault failed. inr (
        c.create_tables.new.tx,
        made.adds clean_mid inside,
        made.works.stays.survives,
        inr (
          free_before (g.T.Statements.state c.args.tx.now).now (g.T.Statements.state c.create_tables.new.tx).now (g.T.Statements.state c.create_indexes.new.tx).now (made.adds clean_mid inside) (both.adds clean_named inside_mid),
          c.create_indexes.new.tx,
          both.adds clean_named inside_mid,
          both.works.stays.survives,
          failed,
        ),
      ));
  stays = stays_then (stays_then c.in_ok-create_tables.ensures.works.stays c.in_ok-create_indexes.ensures.works.stays) c.add_rows.ensures.works.stays;
}

pub returns-in_err-create_tables-clause-works : goal.returns-in_err-create_tables-clause-works
returns-in_err-create_tables-clause-works g c =
    works_failed c.from_residual.result c.in_err-create_tables.field-0.0 c.from_residual.ensures.0 c.from_residual.ensures.1 c.in_err-create_tables.ensures.works.stays
    (λ clean inside. inl (c.in_err-create_tables.ensures.works.cause clean inside))

pub returns-in_err-create_indexes-clause-works : goal.returns-in_err-create_indexes-clause-works
returns-in_err-create_indexes-clause-works g c =
    let made = c.in_ok-create_tables.ensures in
    let failed = c.in_err-create_indexes.ensures in
    let passed = c.from_residual-in_err-create_indexes in
    works_failed passed.result c.in_err-create_indexes.field-0.0 passed.ensures.0 passed.ensures.1 (stays_then made.works.stays failed.works.stays) (λ clean inside.
    let before = clean_before failed.works.stays clean in
    inr (c.create_tables.new.tx, made.adds before inside, made.works.stays.survives, inl (failed.works.cause clean (made.works.stays.inside before inside))))
