use Rattle.std.proofs.Common.{◌≡◌, ◌∙◌, IsTrue, false, refl, sym, subst}
use Rattle.sqlite.specs.Held.{state}
use Rattle.sqlite.proofs.StateLemmas.{clean_if_open}
use Rattle.dep_tables.proofs.Chains.{was_clean}
use Rattle.dep_transactions.specs.Transactions.{IsRestored}
use Rattle.dep_transactions.proofs.Asking.{lent_connection, lent_name}
use Rattle.dep_transactions.proofs.Transacting.{back_by_rollback, none_by_rollback, works_within}
use Rattle.dep_store.proofs.Carrying.{reported_then}
use Rattle.dep_store.proofs.Tries.{is_busy, keeps_back, keeps_same, leaves_only, represents_not}
use Rattle.dep_store.proofs.read_transaction.read_in_transaction.Goals as goal

-- a transaction is under way
pub returns-then-not-is_autocommit : goal.returns-then-not-is_autocommit
returns-then-not-is_autocommit g c =
    let d = state g.S.Store c.args.connection.now in
    let busy = is_busy d.in_transaction c.if-not-is_autocommit.ensures.value in
    record {
      reports = λ is_open s represents. absurd (represents_not d busy represents.tables represents.represents);
      restored = λ between. absurd (let never = sym busy ∙ between in cc never);
      rests = keeps_same d;
      left = λ clean trees h. h;
    }

pub returns : goal.returns
returns g c =
    let old = c.args.connection.now in
    let left : c.read-answer.new.tx.tx.now ≡ c.tx-2-1.given.0 = sym (c.tx-2-1.given.1 (lent_name g.S.Store {new = c.read-answer.new.tx} c.read-answer.ensures.stays)) in
    let inside = c.tx-2-1.given.0.conn.now in
    let new = c.rollback.new.self.0 in
    let shut = clean_if_open (g.S.Store.view new.store) (g.met.S.Store.shut_if_dirty new.store) in
    let work = works_within {inside = c.read-answer.new.tx} g.S.Store old new c.read-answer.ensures.stays c.transaction-tx.ensures.begun left (λ is_open trees h. g.met.S.Store.settled old.store trees is_open h) shut in
    let same : new ≡ c.connection-1.given.0 = sym (c.connection-1.given.1 (lent_connection g.S.Store {new = c.read-answer.new.tx} c.read-answer.ensures.stays left c.transaction-tx.ensures.same_reference)) in
    let restored : IsRestored (state g.S.Store old) (state g.S.Store c.connection-1.given.0) = record {
      back = back_by_rollback g.S.Store old inside new work c.rollback.ensures.undone c.rollback.ensures.survives (c.if-not-is_autocommit.ensures.settled refl) _ same;
      mode = subst (λ h. (state g.S.Store h).in_transaction ≡ false) same c.rollback.ensures.ended;
      survives = none_by_rollback g.S.Store old inside new work c.rollback.ensures.survives _ same;
    } in
    record {
      reports = λ is_open s represents.
          let clean_new = shut (subst (λ h. IsTrue (state g.S.Store h).is_open) (sym same) is_open) in
          reported_then g.S.Store old _ _ _ _ c.transaction-tx.ensures.begun left c.read-answer.ensures.reports (was_clean (state g.S.Store inside) (state g.S.Store new) c.rollback.ensures.survives clean_new) s represents;
      restored = λ between. restored;
      rests = keeps_back (state g.S.Store old) (state g.S.Store c.connection-1.given.0) restored;
      left = leaves_only (state g.S.Store old) (state g.S.Store c.connection-1.given.0) restored.survives;
    }
