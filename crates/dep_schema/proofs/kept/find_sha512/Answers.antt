use Rattle.std.proofs.Common.{inl, map, subst}
use Rattle.sqlite.specs.Held.{state}
use Rattle.sqlite.specs.Order.{column}
use Rattle.dep_schema.specs.Causes.FailsToFindSha512.{not_reported}
use Rattle.dep_schema.specs.Fixity.{IsKeptDigest}
use Rattle.dep_schema.proofs.KeptFound.{finds_kept}
use Rattle.dep_schema.proofs.Queries.{sha512_reads}
use Rattle.dep_schema.proofs.Stills.{shown_reads, stays_shown, stays_refused}
use Rattle.dep_schema.proofs.kept.find_sha512.Goals as goal

pub returns-in-Ok : goal.returns-in-Ok
returns-in-Ok g c =
    let old = state g.S.Store c.args.connection.now in
    let new = state g.S.Store c.query_all.new.self in
    let reported = rw (c.owner_params.ensures, c.in-Ok.is) at c.query_all.ensures in
    record {
      ok = λ clean ours. finds_kept old new c.args.owner _ c.only.result ours (reported.ok clean)
          (subst (λ rows. IsKeptDigest 64 (map (λ row. column row 0) rows) c.only.result) c.as_slice.ensures.value c.only.ensures);
      cause = λ clean ours. tt;
      reads = record {
        stays = stays_shown _ _ _ sha512_reads reported.ok reported.mode reported.survives;
        same = λ clean. shown_reads _ _ old new sha512_reads _ (reported.ok clean);
      };
    }

pub returns-in-Err : goal.returns-in-Err
returns-in-Err g c =
    let reported = rw (c.owner_params.ensures, c.in-Err.is) at c.query_all.ensures in
    record {
      ok = λ clean ours. tt;
      cause = λ clean ours. not_reported (c.in-Err.error, inl (reported.err clean), c.fault_of.ensures);
      reads = record { stays = stays_refused _ _ c.in-Err.error sha512_reads reported.err reported.mode reported.survives; same = λ clean. tt };
    }
