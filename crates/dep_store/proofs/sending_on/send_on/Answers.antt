use Rattle.std.proofs.Common.{[], Ok, None, refl, sym, subst, rules, arith}
use Rattle.std.proofs.KnownBytes.{Appends-nil}
use Rattle.sqlite.specs.State.{HasCleanDisk}
use Rattle.sqlite.specs.Held.{state}
use Rattle.dep_types.specs.State.{State}
use Rattle.dep_transactions.specs.States.{StoreRepresents}
use Rattle.dep_staging.specs.NextBytes.{IsNextIn}
use Rattle.dep_store.proofs.SentOn.{Comes, all_sent, keeps_open, none_taken, restored_then, stays_open, streams_on, takes_few}
use Rattle.dep_store.proofs.Begun.{sends_not}
use Rattle.dep_store.proofs.ShutLemmas.{state_back}
use Rattle.dep_store.proofs.Tries.{counts, honest_back}
use Rattle.dep_store.proofs.sending_on.send_on.Goals as goal

-- the file was not found
pub returns-in_err-size : goal.returns-in_err-size
returns-in_err-size g c =
    let old = state g.S.Store c.args.connection.now in
    let new = state g.S.Store c.find_size.new.connection in
    record {
      sends = sends_not old new c.args.place.it (λ is_open trees h. g.met.S.Store.settled c.args.connection.now.store trees is_open h) _ _ c.args.place.start
          c.from_residual.result c.from_residual.ensures.0 (search rules) c.find_size.ensures.finds.restored;
    }

-- all of it was sent before
pub returns-then-place-size : goal.returns-then-place-size
returns-then-place-size g c =
    let old = state g.S.Store c.args.connection.now in
    let new = state g.S.Store c.find_size.new.connection in
    let did = c.in_ok-size.ensures in
    record {
      sends = record {
        streams = ([], Appends-nil _, λ clean s represents. all_sent s c.args.place.it c.args.place.start c.in_ok-size.size (omega arith) (did.reports clean s represents));
        few = none_taken _;
        does = keeps_open old new did.finds.restored did.finds.opened (Ok None) (λ is_open trees h. g.met.S.Store.settled c.args.connection.now.store trees is_open h);
        count = record { kept = refl; cause = λ is. cc is; others = λ other. refl };
        stays = stays_open old new did.finds.restored did.finds.opened (Ok None);
      };
    }

-- the next bytes could not be read
pub returns-in_err-bytes : goal.returns-in_err-bytes
returns-in_err-bytes g c =
    let old = state g.S.Store c.args.connection.now in
    let mid = state g.S.Store c.find_size.new.connection in
    let new = state g.S.Store c.read_if_open.new.connection in
    let restored = restored_then old mid new c.find_size.ensures.finds.restored c.read_if_open.ensures.finds.restored in
    record {
      sends = sends_not old new c.args.place.it (λ is_open trees h. g.met.S.Store.settled c.args.connection.now.store trees is_open h) _ _ c.args.place.start
          c.from_residual-in_err-bytes.result c.from_residual-in_err-bytes.ensures.0 (search rules) restored;
    }

-- they were, and are sent
pub returns : goal.returns
returns g c =
    let old = state g.S.Store c.args.connection.now in
    let mid = state g.S.Store c.find_size.new.connection in
    let new = state g.S.Store c.read_if_open.new.connection in
    let found = c.in_ok-size.ensures in
    let read = c.in_ok-bytes.ensures in
    let result = c.give_next.result in
    let it = c.args.place.it in
    let start = c.args.place.start in
    let restored = restored_then old mid new found.finds.restored read.finds.restored in
    let opened = read.finds.opened in
    let comes = λ (clean : HasCleanDisk new) (s : State) (represents : StoreRepresents old s).
    let before = honest_back mid new read.finds.restored.survives clean in
    let next = read.reports clean s (state_back old mid s found.finds.restored.back (found.finds.opened before) represents) in
    let both : Comes s it start c.in_ok-size.size c.as_slice.result.now = (found.reports before s represents, subst (IsNextIn s it.file start) (sym c.as_slice.ensures.value) next) in
    both in
    record {
      sends = record {
        streams = streams_on old new _ _ it start c.in_ok-size.size c.as_slice.result.now comes result c.give_next.ensures.gives;
        few = takes_few _ _ c.as_slice.result.now start c.in_ok-size.size result c.give_next.ensures.gives;
        does = keeps_open old new restored opened result (λ is_open trees h. g.met.S.Store.settled c.args.connection.now.store trees is_open h);
        count = counts _ _ result c.give_next.ensures.outlet;
        stays = stays_open old new restored opened result;
      };
    }
