use Rattle.std.proofs.Common.{false, ◌≡◌, IsTrue, IfErr, refl, sym, subst}
use Rattle.sqlite.specs.Held.{Held, state}
use Rattle.sqlite.specs.State.{HasCleanDisk}
use Rattle.sqlite.specs.declared.transaction.Transaction.{Transaction}
use Rattle.sqlite.proofs.StateLemmas.{clean_if_open}
use Rattle.std.proofs.lemmas.Result.{IfOk-from_err}
use Rattle.dep_transactions.proofs.Asking.{lent_connection, lent_name}
use Rattle.dep_transactions.proofs.Transacting.{gave_up, works_within}
use Rattle.dep_tables.proofs.Chains.{was_clean}
use Rattle.dep_tables.proofs.Results.{if_failed}
use Rattle.dep_migrations.proofs.Causes.{if_err_is}
use Rattle.dep_transactions.specs.Upgrading.{FailsToUpgrade}
use Rattle.dep_transactions.proofs.Upgraded.{rewritten_within, statement_failed, upgrade_back, ended, crash_given_up, crash_committing}
use Rattle.dep_transactions.proofs.upgrading.upgrade.Goals as goal

pub returns-in_err-upgrade_tables : goal.returns-in_err-upgrade_tables
returns-in_err-upgrade_tables g c =
    let old = c.args.connection.now in
    let left : c.upgrade_tables.new.tx.tx.now ≡ c.tx-2-1.given.0 = sym (c.tx-2-1.given.1 (lent_name g.S.Store c.in_err-upgrade_tables.ensures.works.stays)) in
    let inside = c.tx-2-1.given.0.conn.now in
    let new = c.drop-tx.new.self.0 in
    let work = works_within g.S.Store old new c.in_err-upgrade_tables.ensures.works.stays c.transaction-tx.ensures.begun left (λ is_open trees h. g.met.S.Store.settled old.store trees is_open h)
    (clean_if_open (g.S.Store.view new.store) (g.met.S.Store.shut_if_dirty new.store)) in
    let same : new ≡ c.connection-1.given.0 = sym (c.connection-1.given.1 (lent_connection g.S.Store c.in_err-upgrade_tables.ensures.works.stays left c.transaction-tx.ensures.same_reference)) in
    record {
      mode = subst (λ (h : Held g.row.S.Denot). (state g.S.Store h).in_transaction ≡ false) same c.drop-tx.ensures.ended;
      upgrades = gave_up g.S.Store old inside new _ c.from_residual.result c.from_residual.ensures.0 work
          c.drop-tx.ensures.undone c.drop-tx.ensures.survives _ same;
      free = λ clean. IfOk-from_err c.from_residual.result _ c.from_residual.ensures.0;
      cause = subst (λ (h : Held g.row.S.Denot). HasCleanDisk (state g.S.Store h) → IfErr c.from_residual.result (FailsToUpgrade g.S.Store old h c.args.values.now)) same
          (λ clean. if_err_is _ c.from_residual.result _ c.from_residual.ensures.1
          (statement_failed g.S.Store c.args.values.now old _ c.upgrade_tables.new.tx c.tx-2-1.given.0 c.transaction-tx.ensures.begun left new _
          (c.in_err-upgrade_tables.ensures.works.cause (subst (λ (tx : Transaction g.row.S.Denot). HasCleanDisk (state g.S.Store tx.conn.now)) (sym left) (was_clean (state g.S.Store inside) (state g.S.Store new) c.drop-tx.ensures.survives clean))
          (subst (λ (h : Held g.row.S.Denot). IsTrue h.in_transaction) (sym c.transaction-tx.ensures.begun) refl)) c.drop-tx.ensures.survives));
      left = λ is_open. if_failed c.from_residual.result (upgrade_back g.S.Store old inside new work _ same c.drop-tx.ensures.survives c.drop-tx.ensures.undone is_open);
      crash = crash_given_up g.S.Store old inside new work _ same _ c.drop-tx.ensures.survives;
    }

pub returns : goal.returns
returns g c =
    let old = c.args.connection.now in
    let left : c.upgrade_tables.new.tx.tx.now ≡ c.tx-2-1.given.0 = sym (c.tx-2-1.given.1 (lent_name g.S.Store c.in_ok-upgrade_tables.ensures.works.stays)) in
    let inside = c.tx-2-1.given.0.conn.now in
    let new = c.commit.new.tx.0 in
    let reported = c.in_ok-upgrade_tables.ensures in
    let worked = rewritten_within g.S.Store old c.args.values.now reported.works.stays c.transaction-tx.ensures.begun left (record { ok = reported.ok; free = reported.free }) in
    let work = works_within g.S.Store old new reported.works.stays c.transaction-tx.ensures.begun left (λ is_open trees h. g.met.S.Store.settled old.store trees is_open h)
    (clean_if_open (g.S.Store.view new.store) (g.met.S.Store.shut_if_dirty new.store)) in
    let same : new ≡ c.connection-2-1.given.0 = sym (c.connection-2-1.given.1 (lent_connection g.S.Store c.in_ok-upgrade_tables.ensures.works.stays left c.transaction-tx.ensures.same_reference)) in
    let end = ended g.S.Store c.args.values.now old new c.connection-2-1.given.0 _ c.upgrade_tables.new.tx c.tx-2-1.given.0 c.transaction-tx.ensures.begun left same
    c.commit.result reported.works.stays work worked c.commit.ensures.ok c.commit.ensures.err c.commit.ensures.survives in
    record {
      mode = subst (λ (h : Held g.row.S.Denot). (state g.S.Store h).in_transaction ≡ false) same c.commit.ensures.ended;
      upgrades = end.upgrades;
      free = end.free;
      cause = end.cause;
      left = end.left;
      crash = crash_committing g.S.Store old inside new work _ same _ c.commit.ensures.survives (λ clean. worked.free clean refl);
    }
