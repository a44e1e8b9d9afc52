use Rattle.std.proofs.Common.{refl}
use Rattle.dep_tables.proofs.Asked.{asks_leave}
use Rattle.sqlite.specs.Held.{state}
use Rattle.dep_transactions.proofs.Asking.{asks_stay, lent_stays, shown_stays}
use Rattle.dep_transactions.proofs.lending.LentStatements.ask.Goals as goal

pub returns-in-Ok : goal.returns-in-Ok
returns-in-Ok g c =
    let asked = c.query_all.ensures in
    record {
      shown = c.in-Ok.ensures.ok;
      cause = λ clean. tt;
      keeps = record {
        stays = lent_stays g.S.Store refl
            (shown_stays g.S.Store c.args.self.now.tx.now.conn c.query_all.new.self.conn asked.same_reference asked.survives _ _ _ c.in-Ok.ensures.ok);
        err = λ clean inside is_open. tt;
      };
    }

pub returns-in-Err : goal.returns-in-Err
returns-in-Err g c =
    let old = c.args.self.now.tx.now.conn in
    let new = c.query_all.new.self.conn in
    let asked = c.query_all.ensures in
    record {
      shown = λ clean. tt;
      cause = λ clean. (c.in-Err.error, c.in-Err.ensures.err clean, c.fault_of.ensures);
      keeps = record {
        stays = lent_stays g.S.Store refl (asks_stay g.S.Store old new asked.same_reference asked.survives _ _ c.in-Err.error c.in-Err.ensures.err);
        err = λ clean inside is_open. asks_leave _ _ (state g.S.Store old.now) (state g.S.Store new.now) c.in-Err.error (c.in-Err.ensures.err clean);
      };
    }
