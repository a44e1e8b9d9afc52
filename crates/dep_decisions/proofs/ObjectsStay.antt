-- An object whose tag was given before stays as it is: what is changed takes the next tag.
use Rattle.std.proofs.Common.{◌≡◌, inl, inr, ℕ, ◌<◌, List, Some, le_refl, le-add_right}
use Rattle.std.specs.FinMap as map
use Rattle.dep_types.specs.State.{State, Object, tick}
use Rattle.dep_types.specs.declared.config.Config.{Config}
use Rattle.dep_decisions.specs.Decisions.{decision, numbers_for}
use Rattle.dep_decisions.specs.Effects.{effect, effect_of}
use Rattle.dep_decisions.specs.declared.operation.Operation.{Operation}
use Rattle.dep_decisions.specs.declared.decision.Decision.{Decision}
use Rattle.dep_decisions.specs.Laws.{KeepsObjects}
use Rattle.dep_decisions.proofs.GivenOnce.{IsKeptOrChanged, kept_or_changed}
use Rattle.dep_decisions.proofs.InOrder.{below_not}

-- ---- nothing changes

pub keeps_objects_refl : (s : State) → KeepsObjects s s
keeps_objects_refl s = record {
  next = le_refl s.next.change;
  objects = λ n after e low. e;
}

-- ---- ticks

pub tick_keeps_objects : (config : Config) (s : State) (moment : ℕ) → KeepsObjects s (tick config s moment)
tick_keeps_objects config s moment = record {
  next = le_refl s.next.change;
  objects = λ n after e low. e;
}

-- ---- requests

module _ (s : State) (content : List ℕ) where
  as_it_is : (next n : ℕ) (after : Object) → after.tag < s.next.change → IsKeptOrChanged s content next n after → map.get s.objects n ≡ Some after
  as_it_is next n after low (inl same) = same
  as_it_is next n after low (inr is) = absurd (below_not after.tag s.next.change low is.1)

  decision_keeps_objects : (d : Decision) → KeepsObjects s (effect_of s content d)
  decision_keeps_objects d = record {
    next = le-add_right s.next.change (numbers_for d).change;
    objects = λ n after e low. as_it_is (effect_of s content d).next.change n after low (kept_or_changed s content d n after e);
  }

pub effect_keeps_objects : (config : Config) (s : State) (op : Operation) → KeepsObjects s (effect config s op)
unfolding effect
effect_keeps_objects config s op = decision_keeps_objects s op.content (decision config op)
