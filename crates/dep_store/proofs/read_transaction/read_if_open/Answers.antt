use Rattle.std.proofs.Common.{Result, sym, subst}
use Rattle.std.proofs.lemmas.Result.{IfOk-from_err}
use Rattle.sqlite.specs.Held.{state}
use Rattle.dep_types.specs.declared.store_fault.StoreFault.{StoreFault}
use Rattle.dep_store.specs.ReadTransactions.{ReadsOpen}
use Rattle.dep_store.proofs.SentOn.{read_open}
use Rattle.dep_store.proofs.read_transaction.read_if_open.Goals as goal

-- it could not be read
pub returns-in_err-answer : goal.returns-in_err-answer
returns-in_err-answer g c =
    let result = c.from_residual.result in
    let is_err = c.from_residual.ensures.0 in
    record {
      reports = IfOk-from_err result _ is_err;
      finds = record { opened = λ clean. IfOk-from_err result _ is_err; restored = c.read_in_transaction.ensures.restored c.requires.settled };
    }

-- it was, and then the store is open or not
pub returns : goal.returns
returns g c =
    let old = state g.S.Store c.args.connection.now in
    let mid = state g.S.Store c.read_in_transaction.new.connection in
    let new = state g.S.Store c.check_open.new.connection in
    let reported = g.K.ReadTransaction.reported c.args.what.now c.read_in_transaction.new.what in
    subst (λ (r : Result _ StoreFault). ReadsOpen old new reported r) (sym c.and.ensures)
    (read_open old mid new c.check_open.result c.in_ok-answer.answer reported c.in_ok-answer.ensures.reports (c.read_in_transaction.ensures.restored c.requires.settled) c.check_open.ensures)
