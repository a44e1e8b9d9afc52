-- What the reply to a request shows, where that is known without a look at the tables.
use Rattle.std.specs.Prelude.{◌≡◌, ℕ, Bool, List, Option, Some, None, option_map}
use Rattle.dep_types.specs.Maps.{◌>>=◌}
use Rattle.dep_types.specs.State.{State}
use Rattle.std.specs.FinMap as map
use Rattle.dep_types.specs.Rows.{file_row, object_row}
use Rattle.dep_types.specs.declared.counters.Counters.{Counters}
use Rattle.dep_types.specs.declared.rows.ObjectRow.{ObjectRow as Row}
use Rattle.dep_decisions.specs.Effects.{effect_of, file_from, filled}
use Rattle.dep_decisions.specs.declared.decision.Decision.{Decision}
use Rattle.dep_decisions.specs.declared.decision.Deposit.{Deposit}
use Rattle.dep_decisions.specs.declared.decision.NewFile.{NewFile}
use Rattle.dep_decisions.specs.declared.decision.Decision.TheVariants.{Show, Create, Append, Replace, Complete, SetMetadata, SetFiles, SetFile}
use Rattle.dep_answers.specs.ReadSets.{files_view, shown_at}
use Rattle.dep_answers.specs.declared.read_set.ReadSet.{ReadSet}
use Rattle.dep_answers.specs.declared.read_set.ReadSet.TheVariants.{File, Files, ObjectRow}
use Rattle.dep_answers.specs.declared.read_set.Shown.{Shown}
use Rattle.dep_answers.specs.declared.read_set.Shown.TheVariants as shown
use Rattle.dep_operations.specs.declared.view.View.{View}
use Rattle.dep_requests.specs.Reported.{ReportsDeposit}
use Rattle.dep_requests.specs.declared.change.Change.{Change}
use Rattle.dep_requests.specs.declared.change.NumberedDeposit.{NumberedDeposit}

-- What is known of a decision once it is carried out: an object that it makes, under the next number, or puts in the place
-- of another, the row of one that gets other metadata or files alone, and a file.
abbrev pub known_read_set : (next : Counters) → Decision → Option ReadSet
known_read_set next (Create d ingests) = Some (Files next.object)
known_read_set next (Replace n d ingests) = Some (Files n)
known_read_set next (SetMetadata n texts) = Some (ObjectRow n)
known_read_set next (SetFiles n new) = Some (ObjectRow n)
known_read_set next (SetFile n f new) = Some (File (record { object = n; file = f }))
known_read_set next d = None

-- what the state after shows there
abbrev pub known_shown : State → (content : List ℕ) → Decision → Option Shown
known_shown s content d = option_map (shown_at (effect_of s content d)) (known_read_set s.next d)

-- the row of the object that has the number of this one
abbrev pub row_in : State → Row → Option Row
row_in s row = option_map (object_row row.object) (map.get s.objects row.object)

-- What a decision leaves of the row of an object that is touched, where that is known: of one that is only shown, that is
-- added to, or that becomes ingested.
abbrev pub row_left : State → (content : List ℕ) → Decision → Row → Option Row
row_left s content Show row = row_in (effect_of s content Show) row
row_left s content (Append n d ingests) row =
    row_in (effect_of s content (Append n d ingests)) row
row_left s content (Complete n) row = row_in (effect_of s content (Complete n)) row
row_left s content d row = None

-- the same of the object in a view
abbrev pub known_row : State → (content : List ℕ) → View → Decision → Option Row
known_row s content view d = view.object >>= row_left s content d

-- a deposit with a number for each of its files is known
abbrev pub ReportsNumbered : NumberedDeposit → State → Type 0
ReportsNumbered d s = ReportsDeposit d.change.now s d.deposit.now

-- an object that has this deposit alone is shown, without its metadata
abbrev pub ShowsFilled : State → Change → Deposit → (n : ℕ) → (ingested : Bool) → Option Shown → Type 0
ShowsFilled s change d n ingested known =
    known ≡ Some (shown.Files (files_view n (filled s change.content.now d ingested)))

-- the row of a file is shown that is the content of this change
abbrev pub ShowsFile : State → Change → NewFile → (n f : ℕ) → Option Shown → Type 0
ShowsFile s change new n f known =
    known ≡ Some (shown.File (file_row n f (file_from s change.content.now new)))
