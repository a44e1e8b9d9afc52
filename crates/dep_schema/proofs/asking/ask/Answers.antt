use Rattle.std.proofs.Common.{inl, inr}
use Rattle.sqlite.specs.Held.{state}
use Rattle.dep_schema.proofs.Stills.{shown_reads, stays_shown, stays_refused}
use Rattle.dep_schema.proofs.asking.ask.Goals as goal

pub returns-in-Ok : goal.returns-in-Ok
returns-in-Ok g c =
    let old = state g.S.Store c.args.connection.now in
    let new = state g.S.Store c.query_all.new.self in
    let reported = rw (c.key_param.ensures, c.in-Ok.is) at c.query_all.ensures in
    record {
      shows = reported.ok;
      cause = λ clean. tt;
      reads = record {
        stays = stays_shown _ _ _ c.requires reported.ok reported.mode reported.survives;
        same = λ clean. shown_reads _ _ old new c.requires _ (reported.ok clean);
      };
    }

pub returns-in-Err : goal.returns-in-Err
returns-in-Err g c =
    let reported = rw (c.key_param.ensures, c.in-Err.is) at c.query_all.ensures in
    record {
      shows = λ clean. tt;
      cause = λ clean. inr (c.in-Err.error, inl (reported.err clean), c.fault_of.ensures);
      reads = record { stays = stays_refused _ _ c.in-Err.error c.requires reported.err reported.mode reported.survives; same = λ clean. tt };
    }
