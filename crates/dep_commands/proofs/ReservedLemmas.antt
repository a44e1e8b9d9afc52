-- What an archive does that turns a request away: nothing.
use Rattle.std.proofs.Common.{inl, Err}
use Rattle.dep_types.specs.State.{State}
use Rattle.dep_types.specs.Conditions.{Condition}
use Rattle.dep_exchange.specs.Archives.{TriesTo}
use Rattle.dep_exchange.proofs.Leaving.{Settles, leaves_wider}

-- it fails without having been asked
pub fails_unasked : {A E : Type 0} (c : Condition) (holds : State → Type 0) (reported : State → A → Type 0) (next : State → State) (fault : E)
    → Settles c → TriesTo c c holds reported next (Err fault)
fails_unasked c holds reported next fault settles = record {
  ok = λ clean s represents its. tt;
  err = λ is_open s represents. represents;
  honest = λ clean. clean;
  was_open = λ is_open. is_open;
  stop = λ clean s represents its. leaves_wider c _ _ (λ left same. inl same) (settles s represents);
}
