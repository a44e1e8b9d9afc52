-- What a stop leaves of an opening represents the same records.
use Rattle.std.proofs.Common.{[], ◌∷◌, ◌++◌, sym, subst}
use Rattle.sqlite.specs.State as db
use Rattle.dep_types.specs.State.{State}
use Rattle.dep_types.specs.declared.config.Config.{Config}
use Rattle.dep_store.specs.Migrating.{OpenLeaves}
use Rattle.dep_application.specs.Starting.{OpeningLeaves}
use Rattle.dep_exchange.specs.Records.{Run, stops, stopped, first_world}

pub opening_leaves : (config : Config) (old new : db.State) → OpenLeaves old new → OpeningLeaves config old new
opening_leaves config old new leaves = record {
  fresh = leaves.fresh;
  again = λ honest is_open found is first records run.
      λ trees h.
      let l = leaves.found honest is_open found is trees h in
      (l.0, l.1, (l.2, subst (λ (s : State). Run config first (records ++ stopped ∷ []) (first_world s)) (sym l.2) (stops run)));
}
