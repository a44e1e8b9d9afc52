-- What is known after some of the rules before the last one, and after that.
use Rattle.std.specs.Prelude.{◌≡◌, Option, Some, None}
use Rattle.dep_types.specs.declared.config.Config.{Config}
use Rattle.dep_types.specs.declared.refusal.Refusal.{Refusal}
use Rattle.dep_decisions.specs.Asked.{IsContentRead}
use Rattle.dep_decisions.specs.Decisions.{decision_with}
use Rattle.dep_decisions.specs.Rules.{room_rule}
use Rattle.dep_decisions.specs.declared.operation.Operation.{Operation}
use Rattle.dep_operations.specs.Seen.{in_view}
use Rattle.dep_operations.specs.declared.order.Checked.{Checked}
use Rattle.dep_operations.specs.declared.order.Checked.TheVariants.{Refused, Passed}
use Rattle.dep_operations.specs.declared.ruling.Ruling.{Ruling}
use Rattle.dep_operations.specs.declared.ruling.Ruling.TheVariants.{Do, Refuse}
use Rattle.dep_operations.specs.declared.view.View.{View}

-- refused for what these rules refuse it for, or passed where they refuse nothing, and then read so far
abbrev pub IsCheckedBy : (refused : Option Refusal) → Operation → Checked → Type 0
IsCheckedBy refused op (Refused r) = refused ≡ Some r
IsCheckedBy refused op (Passed read) = (refused ≡ None) × IsContentRead op read

-- whether the numbers can be given, and then what is asked for
abbrev pub IsRoomRuling : Config → View → Operation → Ruling → Type 0
IsRoomRuling config view op (Refuse r) = room_rule config (in_view view) op ≡ Some r
IsRoomRuling config view op (Do d) =
    (room_rule config (in_view view) op ≡ None) × (d ≡ decision_with view.references op)
