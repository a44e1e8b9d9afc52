-- A store, as what bags are made from, stands still.
use Rattle.std.proofs.Common.{Result, Ok, Err, OnOk, OnErr, IsTrue}
use Rattle.sqlite.specs.State as db
use Rattle.dep_types.specs.State.{State}
use Rattle.dep_transactions.specs.States.{StoreRepresents}
use Rattle.dep_transactions.proofs.Transacting.{kept_alone}
use Rattle.dep_bag.specs.Source.{StandsStill}
use Rattle.dep_exchange.specs.Archives.{Reports}
use Rattle.dep_exchange.proofs.Leaving.{leaves_once}
use Rattle.dep_store.specs.Archive.{shown_by}

either_way : {A E : Type 0} (r : Result A E) (P : Type 0) → OnOk r P → OnErr r P → P
either_way (Ok answer) P ok err = ok
either_way (Err fault) P ok err = err

-- where a call only tells
pub represents_still : {A E : Type 0} (old new : db.State) (reported : State → A → Type 0) (r : Result A E) → (IsTrue new.is_open → db.HasCleanDisk new)
    → Reports (shown_by old) (shown_by new) reported r → StandsStill (shown_by old) (shown_by new)
represents_still old new reported r clean it = record {
  honest_before = it.honest;
  open_before = it.was_open;
  stays = λ is_open s at. either_way r (StoreRepresents new s) (kept_alone r (reported s) (StoreRepresents new s) (it.ok (clean is_open) s at tt)) (it.err is_open s at);
  stop = λ honest s at. leaves_once (shown_by new) s (it.stop honest s at tt);
}
