-- Why a reply is cut.
use Rattle.std.specs.Prelude.{◌≡◌, ◌⊎◌, ℕ, List, ◌++◌}
use Rattle.dep_types.specs.State.{State}
use Rattle.dep_types.specs.Writing.{IsProperPrefix, HasRisen}
use Rattle.dep_types.specs.declared.config.Config.{Config}
use Rattle.dep_message.specs.Places.{Place}
use Rattle.dep_message.specs.Stream.{Item}
use Rattle.dep_answers.specs.Steps.{Stepped}
use Rattle.dep_exchange.specs.Machine.{step, Fails, given_up, cut_short, Serves, serves_all, step_fails, gives_up}
use Rattle.dep_exchange.specs.Records.{Line, Arrives, at_live, at_shut_line}
use Rattle.dep_exchange.specs.declared.arrived.Arrived.{Arrived}

-- all of the front of the reply was sent, and a proper prefix of the stored content behind it
abbrev pub CutsStored : Stepped → (sent : List ℕ) → Type 0
CutsStored stepped sent =
    (part : List ℕ) × IsProperPrefix part stepped.stored × (sent ≡ stepped.front ++ part)

-- the step that fails was sending a stored content
abbrev pub IsCutInContent : {config : Config} {s : State} {item : Item} {moment : ℕ} {sent : List ℕ}
    {left : State} {answer : Arrived}
    → Fails config s item moment sent left answer → Type 0
IsCutInContent (given_up fixed sends leaves) = ⊥
IsCutInContent {config = config} {s = s} {item = item} {moment = moment} {sent = sent}
    (cut_short part leaves) =
    CutsStored (step config s item moment) sent

-- the arrival ended there
abbrev pub EndsInContent : {config : Config} {reads : List Item → Place → Type 0} {s : State}
    {moment : ℕ} {sent : List ℕ} {left : State} {at : Place} {answer : Arrived}
    → Serves config reads s moment sent left at answer → Type 0
EndsInContent (serves_all items reads waits) = ⊥
EndsInContent (step_fails items item at reads fails) = IsCutInContent fails
EndsInContent (gives_up items at reads some sends) = ⊥

abbrev pub IsCutWhileStreaming : {config : Config} {piece : List ℕ} {moment : ℕ} {line after : Line}
    {s left : State} {sent : List ℕ} {answer : Arrived}
    → Arrives config piece moment line s sent left after answer → Type 0
IsCutWhileStreaming (at_live serves) = EndsInContent serves
IsCutWhileStreaming at_shut_line = ⊥

-- the outlet failed between these counts of its failures, or a stored content was being sent
abbrev pub HasCause : {config : Config} {piece : List ℕ} {moment : ℕ} {line after : Line}
    {s left : State} {sent : List ℕ} {answer : Arrived} → (failures failures_after : ℕ)
    → Arrives config piece moment line s sent left after answer → Type 0
HasCause failures failures_after arrives =
    HasRisen failures failures_after ⊎ IsCutWhileStreaming arrives
