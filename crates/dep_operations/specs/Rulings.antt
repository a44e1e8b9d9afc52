-- What a ruling says of a request in a state.
use Rattle.std.specs.Prelude.{◌≡◌, Option, Some, None, IsTrue}
use Rattle.dep_types.specs.State.{State}
use Rattle.dep_types.specs.Numbers.{room_for}
use Rattle.dep_types.specs.declared.config.Config.{Config}
use Rattle.dep_types.specs.declared.counters.Counters.{Counters}
use Rattle.dep_types.specs.declared.refusal.Refusal.{Refusal}
use Rattle.dep_fields.specs.declared.kind.Kind.TheVariants.{References}
use Rattle.dep_decisions.specs.Decisions.{decision, numbers_for}
use Rattle.dep_decisions.specs.Kinds.{content_kind}
use Rattle.dep_decisions.specs.Laws.{refusal_before_room}
use Rattle.dep_decisions.specs.LookUps.{in_state, without_digests, without_entries}
use Rattle.dep_decisions.specs.Rules.{refusal}
use Rattle.dep_decisions.specs.declared.operation.Operation.{Operation}
use Rattle.dep_operations.specs.Views.{true_view, undigested_view, unnamed_view}
use Rattle.dep_operations.specs.declared.ruling.Ruling.{Ruling}
use Rattle.dep_operations.specs.declared.ruling.Ruling.TheVariants.{Do, Refuse}
use Rattle.dep_operations.specs.declared.view.View.{View}

-- refused for the first rule that applies, or done as the request asks where none does
abbrev pub IsRuling : Config → State → Operation → Ruling → Type 0
IsRuling config s op (Refuse r) = refusal config s op ≡ Some r
IsRuling config s op (Do d) = (refusal config s op ≡ None) × (d ≡ decision config op)

-- it is the ruling in each state that the view shows truly
abbrev pub RulesBy : Config → View → Operation → Ruling → Type 0
RulesBy config view op ruling =
    (s : State) → view ≡ true_view config s op → IsRuling config s op ruling

-- it is the refusal by rules 5 to 14, before any digest is taken, in each state that the view shows truly but for
-- digests; and none where these refuse nothing so
abbrev pub RefusesUndigested : Config → View → Operation → Option Refusal → Type 0
RefusesUndigested config view op refused = (s : State) → view ≡ undigested_view config s op
    → refused ≡ refusal_before_room config (without_digests (in_state s)) op

-- the same of a document of references in each state that the view shows truly but for the uploads that they name,
-- of which it shows none
abbrev pub RefusesUnnamed : Config → View → Operation → Option Refusal → Type 0
RefusesUnnamed config view op refused = (s : State) → content_kind op ≡ Some References
    → view ≡ unnamed_view config s op
    → refused ≡ refusal_before_room config (without_entries (in_state s)) op

-- what is let through can be given its numbers
abbrev pub HasRoomFor : Counters → Ruling → Type 0
HasRoomFor next (Do d) = IsTrue (room_for next (numbers_for d))
HasRoomFor next (Refuse r) = Unit {0}
