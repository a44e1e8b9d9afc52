use Rattle.std.proofs.Common.{Ok, Err, ap, is_ok, refl, subst, sym}
use Rattle.std.specs.Prelude.{⊤}
use Rattle.sqlite.specs.State.{ExecutesInside}
use Rattle.sqlite.specs.Values.{bound}
use Rattle.sqlite.specs.Held.{state}
use Rattle.dep_transactions.proofs.Asking.{lent_stays, ran_leaves, ran_stays}
use Rattle.dep_transactions.proofs.lending.LentStatements.run.Goals as goal

pub returns-in-Ok : goal.returns-in-Ok
returns-in-Ok g c =
    let old = c.args.self.now.tx.now.conn in
    let new = c.execute.new.self.conn in
    let ran = c.execute.ensures in
    record {
      runs = λ clean inside. (_, subst (ExecutesInside 0 c.args.sql.now (bound c.args.params.now) (state g.S.Store old.now) (state g.S.Store new.now)) c.in-Ok.is (ran.runs clean inside));
      cause = λ clean inside. tt;
      keeps = record {
        stays = lent_stays g.S.Store refl (ran_stays g.S.Store old new ran.same_reference ran.survives _ _ c.execute.result (Ok tt) (sym (ap is_ok c.in-Ok.is)) ran.runs);
        err = λ clean inside is_open. tt;
      };
    }

pub returns-in-Err : goal.returns-in-Err
returns-in-Err g c =
    let old = c.args.self.now.tx.now.conn in
    let new = c.execute.new.self.conn in
    let ran = c.execute.ensures in
    record {
      runs = λ clean inside. tt;
      cause = λ clean inside.
          (c.in-Err.error, subst (ExecutesInside 0 c.args.sql.now (bound c.args.params.now) (state g.S.Store old.now) (state g.S.Store new.now)) c.in-Err.is (ran.runs clean inside), c.fault_of.ensures);
      keeps = record {
        stays = lent_stays g.S.Store refl (ran_stays g.S.Store old new ran.same_reference ran.survives _ _ c.execute.result (Err c.fault_of.result) (sym (ap is_ok c.in-Err.is)) ran.runs);
        err = λ clean inside is_open. ran_leaves g.S.Store old new ran.same_reference ran.survives _ _ c.execute.result {A = ⊤} (Err c.fault_of.result) (sym (ap is_ok c.in-Err.is)) (ran.runs clean inside);
      };
    }
