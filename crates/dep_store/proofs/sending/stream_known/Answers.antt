use Rattle.std.proofs.Common.{IsTrue, refl, sym, subst, rules}
use Rattle.std.proofs.lemmas.Result.{IfOk-from_err}
use Rattle.sqlite.specs.State.{HasCleanDisk}
use Rattle.sqlite.specs.Held.{state}
use Rattle.sqlite.proofs.StateLemmas.{clean_if_open}
use Rattle.dep_tables.specs.Tables.{Tables, tables_of}
use Rattle.dep_tables.proofs.Results.{ok_then}
use Rattle.dep_row_maps.specs.TablesAre.{TablesAre}
use Rattle.dep_schema.proofs.Stills.{still_left}
use Rattle.dep_schema.proofs.Streams.{streamed, IsSized}
use Rattle.dep_types.specs.State.{State}
use Rattle.dep_transactions.specs.States.{StoreRepresents}
use Rattle.dep_transactions.proofs.Transacting.{leaves_still}
use Rattle.dep_store.proofs.Carrying.{ok_unchanged, err_kept}
use Rattle.dep_store.proofs.ShutLemmas.{back_on_ok, fails_still, open_still, state_back, was_open_then}
use Rattle.dep_store.proofs.Tries.{keeps_state, failed_keeping, honest_back, counts}
use Rattle.dep_store.proofs.KnownFiles.{sized_file}
use Rattle.dep_store.proofs.sending.stream_known.Goals as goal

-- the file is known to be there
pub returns-then-it-file : goal.returns-then-it-file
returns-then-it-file g c =
    let first = c.args.connection.now in
    let last = c.stream_blocks.new.connection in
    let old = state g.S.Store first in
    let new = state g.S.Store last in
    let it = c.in-Some.it in
    let there = c.requires.there it c.in-Some.is in
    let did = c.stream_blocks.ensures in
    let result = c.stream_blocks.result in
    let stays = did.leaves.stays in
    let sent = did.streams in
    let clean_now = clean_if_open (g.S.Store.view last.store) (g.met.S.Store.shut_if_dirty last.store) in
    let was = λ (clean : HasCleanDisk new). there.1 (stays.honest clean) in
    let same = λ (clean : HasCleanDisk new) (is_open : IsTrue old.is_open). ok_then result (did.leaves.same clean) (λ left. (still_left g.S.Store first last left).unchanged is_open) in
    record {
      sends = record {
        streams = (
          sent.0,
          sent.1,
          λ clean s represents.
              streamed (tables_of old) s c.args.file it.size sent.0 result (subst (λ (t : Tables). TablesAre t s) (sym represents.represents.rows) represents.means.are)
              (subst (λ n. IsSized s n it.size) c.if-it-file.true (sized_file s it (there.0 s represents))) (sent.2 clean represents.represents.ours),
        );
        does =
            keeps_state old new result
            (λ clean s at. ok_unchanged old new result s at (same clean at.represents.is_open))
            (λ is_open s at. err_kept old new result s at is_open (stays.kept (clean_now is_open)))
            stays.honest
            (λ is_open. stays.was_open (clean_now is_open) is_open)
            (λ clean s at. leaves_still old new s (λ trees h. g.met.S.Store.settled first.store trees at.represents.is_open h) at stays.survives clean);
        count = counts _ _ result did.outlet;
        stays = record {
          shut = was_open_then old new result was;
          back = back_on_ok old old new result clean_now (λ is_open. (is_open, refl, refl, c.requires.settled)) (λ clean. same clean (was clean));
          opened = λ clean. open_still old new result (same clean (was clean));
        };
      };
    }

pub returns : goal.returns
returns g c =
    let old = state g.S.Store c.args.connection.now in
    let mid = state g.S.Store c.check_open.new.connection in
    let new = state g.S.Store c.stream_content.new.connection in
    let reads = c.stream_content.ensures.reads in
    let restored = c.check_open.ensures.restored in
    let store = c.stream_content.new.connection.store in
    let sent = c.stream_content.ensures.streams in
    let opened = λ (clean : HasCleanDisk new). c.in_ok-check_open.ensures.opened (reads.stays.honest clean) in
    let clean_now = clean_if_open (g.S.Store.view store) (g.met.S.Store.shut_if_dirty store) in
    let now = λ (clean : HasCleanDisk new) (s : State) (at : StoreRepresents old s). state_back old mid s restored.back (opened clean) at in
    record {
      sends = record {
        streams = (
          sent.0,
          sent.1,
          λ clean s represents.
              let then = now clean s represents in
              sent.2 clean then.represents.ours s (subst (λ (t : Tables). TablesAre t s) (sym then.represents.rows) then.means.are),
        );
        does =
            keeps_state old new c.stream_content.result
            (λ clean s at. ok_unchanged mid new c.stream_content.result s (now clean s at) (reads.same clean))
            (λ is_open s at. err_kept mid new c.stream_content.result s (now (clean_now is_open) s at) is_open (reads.stays.kept (clean_now is_open)))
            (λ clean. honest_back old mid restored.survives (reads.stays.honest clean))
            (λ is_open. (restored.back (reads.stays.was_open (clean_now is_open) is_open)).0)
            (λ clean s at. leaves_still mid new s (λ trees h. g.met.S.Store.settled c.check_open.new.connection.store trees (now clean s at).represents.is_open h) (now clean s at) reads.stays.survives clean);
        count = counts _ _ c.stream_content.result c.stream_content.ensures.outlet;
        stays = record {
          shut = was_open_then old new c.stream_content.result (λ clean. (restored.back (opened clean)).0);
          back = back_on_ok old mid new c.stream_content.result clean_now restored.back (λ clean. reads.same clean);
          opened = λ clean. open_still mid new c.stream_content.result (reads.same clean);
        };
      };
    }

pub returns-in_err-check_open : goal.returns-in_err-check_open
returns-in_err-check_open g c =
    let old = state g.S.Store c.args.connection.now in
    let mid = state g.S.Store c.check_open.new.connection in
    let failed = c.from_residual.ensures.0 in
    let restored = c.check_open.ensures.restored in
    record {
      sends = record {
        streams = search rules;
        does =
            failed_keeping old mid c.from_residual.result failed
            (λ is_open trees h. g.met.S.Store.settled c.args.connection.now.store trees is_open h) restored.back restored.survives;
        count = search rules;
        stays = record {
          shut = fails_still old mid c.from_residual.result failed restored.survives;
          back = IfOk-from_err c.from_residual.result _ failed;
          opened = λ clean. IfOk-from_err c.from_residual.result _ failed;
        };
      };
    }
