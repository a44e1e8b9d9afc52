use Rattle.std.proofs.Common.{false, not, ◌≡◌, ◌∙◌, refl, sym, ap, subst}
use Rattle.std.proofs.lemmas.Result.{IfOk-from_err}
use Rattle.sqlite.proofs.StateLemmas.{clean_if_open}
use Rattle.dep_transactions.proofs.Transacting.{gave_up, none_then, on_connection, still_on, works_on}
use Rattle.dep_views.specs.declared.ahead.WorkAhead.{WorkAhead}
use Rattle.dep_requests.specs.Performing.{IsDone}
use Rattle.dep_transactions.proofs.Performed.{IsPerformed, by_commit, by_rollback, keeps_ahead, transacts_alone, worked_on}
use Rattle.sqlite.specs.State.{Survives}
use Rattle.sqlite.specs.Held.{Held, state}
use Rattle.dep_transactions.proofs.performing.perform_request.Goals as goal

-- where it failed, nothing is said of an Ok
pub returns-in_err-performed : goal.returns-in_err-performed
returns-in_err-performed g c =
    let old = c.args.connection.now in
    let inside = c.answer_within.new.tx.conn.now in
    let new = c.drop-tx.new.self.0 in
    let work = works_on g.S.Store old new c.in_err-performed.ensures.stays c.transaction-tx.ensures.begun (λ is_open trees h. g.met.S.Store.settled old.store trees is_open h)
    (clean_if_open (g.S.Store.view new.store) (g.met.S.Store.shut_if_dirty new.store)) in
    let same : new ≡ c.connection-1.given.0 = sym (c.connection-1.given.1 (on_connection g.S.Store c.in_err-performed.ensures.stays c.transaction-tx.ensures.same_reference)) in
    let result = c.from_residual.result in
    let is_err = c.from_residual.ensures.0 in
    record {
      transacts = gave_up g.S.Store old inside new _ result is_err work c.drop-tx.ensures.undone c.drop-tx.ensures.survives _ same;
      plain = λ reads. gave_up g.S.Store old inside new _ result is_err work c.drop-tx.ensures.undone c.drop-tx.ensures.survives _ same;
      changes = λ clean s represents ahead. IfOk-from_err result _ is_err;
      ahead = keeps_ahead g.S.Store old inside new c.args.ahead.now c.answer_within.new.ahead _ c.transaction-tx.ensures.begun c.in_err-performed.ensures.ahead c.drop-tx.ensures.survives work.shut _ same;
      back = IfOk-from_err result _ is_err;
    }

-- where something was changed, it was committed, or its commit failed
pub returns-then-performed : goal.returns-then-performed
returns-then-performed g c =
    let old = c.args.connection.now in
    let inside = c.answer_within.new.tx.conn.now in
    let new = c.commit.new.tx.0 in
    let reported = c.in_ok-performed.ensures in
    let work = works_on g.S.Store old new reported.stays c.transaction-tx.ensures.begun (λ is_open trees h. g.met.S.Store.settled old.store trees is_open h)
    (clean_if_open (g.S.Store.view new.store) (g.met.S.Store.shut_if_dirty new.store)) in
    let last = c.connection-then-performed-1.given.0 in
    let same : new ≡ last = sym (c.connection-then-performed-1.given.1 (on_connection g.S.Store reported.stays c.transaction-tx.ensures.same_reference)) in
    let ended = λ (runs : WorkAhead) (did : IsDone (state g.S.Store c.transaction-tx.result.conn.now) (state g.S.Store inside) c.args.service.now c.args.operation.now runs c.in_ok-performed.performed).
    subst (IsPerformed (state g.S.Store old) (state g.S.Store last) c.args.service.now c.args.operation.now runs) (sym c.and.ensures)
    (by_commit g.S.Store old inside c.args.service.now c.args.operation.now runs c.in_ok-performed.performed
    (worked_on g.S.Store old inside c.args.service.now c.args.operation.now runs c.in_ok-performed.performed c.transaction-tx.ensures.begun did) new c.commit.result work
    (still_on g.S.Store old reported.stays c.transaction-tx.ensures.begun) c.commit.ensures.ok c.commit.ensures.err c.commit.ensures.survives c.if-performed.true last same) in
    let it = ended c.args.ahead.now reported.does in
    record {
      transacts = it.transacts;
      plain = λ reads. let alone = reported.plain reads in transacts_alone _ _ _ _ alone.0 _ alone.1 (ended alone.0 alone.2).transacts;
      changes = it.changes;
      ahead = keeps_ahead g.S.Store old inside new c.args.ahead.now c.answer_within.new.ahead _ c.transaction-tx.ensures.begun reported.ahead c.commit.ensures.survives work.shut last same;
      back = it.back;
    }

-- where nothing was changed, all is given back, and the store is open or not
pub returns : goal.returns
returns g c =
    let old = c.args.connection.now in
    let inside = c.answer_within.new.tx.conn.now in
    let mid = c.give_back.new.tx.0 in
    let new = c.check_open.new.connection in
    let reported = c.in_ok-performed.ensures in
    let work = works_on g.S.Store old mid reported.stays c.transaction-tx.ensures.begun (λ is_open trees h. g.met.S.Store.settled old.store trees is_open h)
    (clean_if_open (g.S.Store.view mid.store) (g.met.S.Store.shut_if_dirty mid.store)) in
    let last = c.connection-2-1.given.0 in
    let same : mid ≡ last = sym (c.connection-2-1.given.1 (on_connection g.S.Store reported.stays c.transaction-tx.ensures.same_reference)) in
    let ended = λ (runs : WorkAhead) (did : IsDone (state g.S.Store c.transaction-tx.result.conn.now) (state g.S.Store inside) c.args.service.now c.args.operation.now runs c.in_ok-performed.performed).
    subst (IsPerformed (state g.S.Store old) (state g.S.Store new) c.args.service.now c.args.operation.now runs) (sym c.and-2.ensures)
    (by_rollback g.S.Store old inside c.args.service.now c.args.operation.now runs c.in_ok-performed.performed
    (worked_on g.S.Store old inside c.args.service.now c.args.operation.now runs c.in_ok-performed.performed c.transaction-tx.ensures.begun did) mid last new same c.check_open.result work
    c.give_back.ensures.undone c.give_back.ensures.survives (c.is_autocommit-between.ensures.settled (c.is_autocommit-between.ensures.value ∙ ap not c.requires.settled)) c.check_open.ensures c.if-performed.false) in
    let it = ended c.args.ahead.now reported.does in
    let later = subst (λ (h : Held g.row.S.Denot). Survives (state g.S.Store h) (state g.S.Store new) (λ _. ⊥)) (sym same) c.check_open.ensures.restored.survives in
    record {
      transacts = it.transacts;
      plain = λ reads. let alone = reported.plain reads in transacts_alone _ _ _ _ alone.0 _ alone.1 (ended alone.0 alone.2).transacts;
      changes = it.changes;
      ahead =
          keeps_ahead g.S.Store old inside new c.args.ahead.now c.answer_within.new.ahead _ c.transaction-tx.ensures.begun reported.ahead
          (none_then (state g.S.Store inside) (state g.S.Store mid) (state g.S.Store new) c.give_back.ensures.survives later) (clean_if_open (g.S.Store.view new.store) (g.met.S.Store.shut_if_dirty new.store)) new refl;
      back = it.back;
    }

-- (a wrong body is refused here without a search)
pub check_open-requires : goal.check_open-requires
check_open-requires g c =
    let same : c.give_back.new.tx.0 ≡ c.connection-2-1.given.0 = sym (c.connection-2-1.given.1 (on_connection g.S.Store c.in_ok-performed.ensures.stays c.transaction-tx.ensures.same_reference)) in
    record { settled = subst (λ (h : Held g.row.S.Denot). (state g.S.Store h).in_transaction ≡ false) same c.give_back.ensures.ended }
