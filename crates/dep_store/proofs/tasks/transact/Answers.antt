use Rattle.std.proofs.Common.{◌≡◌, Result, Err, refl, sym, subst}
use Rattle.sqlite.specs.Held.{state}
use Rattle.sqlite.proofs.StateLemmas.{clean_if_open}
use Rattle.dep_types.specs.declared.store_fault.StoreFault.{StoreFault}
use Rattle.dep_types.specs.declared.store_fault.StoreFault.TheVariants.{Store}
use Rattle.dep_store.specs.Tasks.{TransactsIfOpen}
use Rattle.dep_transactions.proofs.Asking.{lent_connection, lent_name}
use Rattle.dep_transactions.proofs.Transacting.{gave_up, nothing_reported, works_within, still_inside}
use Rattle.dep_store.proofs.Carrying.{ended_by, made_inside}
use Rattle.dep_store.proofs.Tries.{busy_transacts, is_busy}
use Rattle.dep_store.proofs.tasks.transact.Goals as goal

pub returns-then-not-is_autocommit : goal.returns-then-not-is_autocommit
returns-then-not-is_autocommit g c =
    let d = state g.S.Store c.args.connection.now in
    record { transacts = busy_transacts d (is_busy d.in_transaction c.if-not-is_autocommit.ensures.value) (Err Store) refl; opened = λ clean. tt }

pub returns-in_err-answer : goal.returns-in_err-answer
returns-in_err-answer g c =
    let old = c.args.connection.now in
    let stays = c.in_err-answer.ensures.stays in
    let begun = c.transaction-tx.ensures in
    let left : c.run.new.tx.tx.now ≡ c.tx-2-1.given.0 = sym (c.tx-2-1.given.1 (lent_name g.S.Store {new = c.run.new.tx} stays)) in
    let inside = c.tx-2-1.given.0.conn.now in
    let new = c.drop-tx.new.self.0 in
    let work = works_within {inside = c.run.new.tx} g.S.Store old new stays begun.begun left (λ is_open trees h. g.met.S.Store.settled old.store trees is_open h)
    (clean_if_open (g.S.Store.view new.store) (g.met.S.Store.shut_if_dirty new.store)) in
    let same : new ≡ c.connection-1.given.0 = sym (c.connection-1.given.1 (lent_connection g.S.Store {new = c.run.new.tx} stays left begun.same_reference)) in
    let result = c.from_residual.result in
    let is_err = c.from_residual.ensures.0 in
    record {
      transacts = gave_up g.S.Store old inside new _ result is_err work c.drop-tx.ensures.undone c.drop-tx.ensures.survives _ same;
      opened = λ clean. nothing_reported result _ is_err;
    }

pub returns : goal.returns
returns g c =
    let old = c.args.connection.now in
    let did = c.in_ok-answer.ensures in
    let begun = c.transaction-tx.ensures in
    let left : c.run.new.tx.tx.now ≡ c.tx-2-1.given.0 = sym (c.tx-2-1.given.1 (lent_name g.S.Store {new = c.run.new.tx} did.stays)) in
    let inside = c.tx-2-1.given.0.conn.now in
    let new = c.commit.new.tx.0 in
    let work = works_within {inside = c.run.new.tx} g.S.Store old new did.stays begun.begun left (λ is_open trees h. g.met.S.Store.settled old.store trees is_open h)
    (clean_if_open (g.S.Store.view new.store) (g.met.S.Store.shut_if_dirty new.store)) in
    let same : new ≡ c.connection-2-1.given.0 = sym (c.connection-2-1.given.1 (lent_connection g.S.Store {new = c.run.new.tx} did.stays left begun.same_reference)) in
    let made = made_inside g.S.Store old _ _ _ (g.K.Task.makes c.args.task.now) c.in_ok-answer.answer begun.begun left did.made in
    let last = c.connection-2-1.given.0 in
    subst (λ (r : Result _ StoreFault). TransactsIfOpen (state g.S.Store old) (state g.S.Store last) r (g.K.Task.makes c.args.task.now)) (sym c.and.ensures)
    (ended_by g.S.Store old inside new last (g.K.Task.makes c.args.task.now) c.in_ok-answer.answer c.commit.result work made (still_inside g.S.Store old did.stays begun.begun left)
    c.commit.ensures.ok c.commit.ensures.err c.commit.ensures.survives same)
