-- Requests that are prepared before they are answered: their uploads are hashed, or the texts or files that they show read.
use Rattle.std.specs.Prelude.{◌≡◌, ◌⊎◌, ◌<◌, ◌≤◌, ℕ, ◌+◌, ◌&&◌, ◌||◌, nat_lt, Bool, true, false, List, length, get_or, Option, Some, None, codes, bytes_eq, if◌then◌else◌}
use Rattle.dep_head.specs.Head.{HeadParts}
use Rattle.dep_fields.specs.Reported.{fields_of}
use Rattle.dep_fields.specs.Kinds.{is_by_reference}
use Rattle.dep_message.specs.Places.{Place, Reading}
use Rattle.dep_message.specs.Showing.{IsNoNext}
use Rattle.dep_message.specs.Stream.{Request, FirstAt}
use Rattle.dep_message.specs.declared.message.Message.{Message}
use Rattle.dep_types.specs.Conditions.{Condition}
use Rattle.dep_types.specs.declared.target.Resource.{Resource}
use Rattle.dep_types.specs.declared.target.Resource.TheVariants.{Object}
use Rattle.dep_types.specs.declared.target.Method.{Method}
use Rattle.dep_types.specs.declared.target.Method.TheVariants.{Get, Head, Post}
use Rattle.dep_router.specs.Targets.{target}
use Rattle.dep_router.specs.declared.routed.Routed.{Routed}
use Rattle.dep_router.specs.declared.routed.Routed.TheVariants.{To, NotFound, NotAllowed}
use Rattle.dep_answers.specs.ReadSets.{read_set_at, reads_many_rows}
use Rattle.dep_exchange.specs.Archives.{CommitsIfDue, KeepsEachState}
use Rattle.dep_exchange.specs.ArchiveCalls.{CallLog, Runs, WorkedAhead}
use Rattle.dep_hub.specs.declared.connections.Connection.{Connection}
use Rattle.dep_hub.specs.declared.rest.Behind.{Behind}
use Rattle.dep_hub.specs.declared.rest.Behind.TheVariants.{Nothing, Prepares, Prepared}

-- a POST or a PUT by reference: its document names uploads
abbrev pub names_uploads : HeadParts → Bool
names_uploads head =
    (bytes_eq head.method (codes "POST") || bytes_eq head.method (codes "PUT"))
    && is_by_reference (fields_of head.fields).disposition

-- a reply is made of all the texts of an object's metadata or of all its files: to a GET or a HEAD that shows them, or to
-- a POST to an object
abbrev pub many_rows_shown_to : Resource → Method → Bool
many_rows_shown_to resource Get = reads_many_rows (read_set_at resource false)
many_rows_shown_to resource Head = reads_many_rows (read_set_at resource true)
many_rows_shown_to (Object n) Post = true
many_rows_shown_to resource method = false

-- so is the reply to what a head names
abbrev pub many_rows_shown_by : Routed → Bool
many_rows_shown_by (To t) = many_rows_shown_to t.resource t.method
many_rows_shown_by NotFound = false
many_rows_shown_by (NotAllowed methods) = false

-- so to the request of a head
abbrev pub shows_many_rows : HeadParts → Bool
shows_many_rows head = many_rows_shown_by (target head.method head.path)

-- a request is prepared first
abbrev pub is_prepared_first : HeadParts → Bool
is_prepared_first head = names_uploads head || shows_many_rows head

-- so is the next one, which has come whole
abbrev pub IsPreparedFirst : Reading → Type 0
IsPreparedFirst reading = (m : Message) × (next : Place)
    × FirstAt reading.limit reading.place (Request m) next × (is_prepared_first m.head ≡ true)

-- or it isn't, if one has come whole
abbrev pub NoneIsPrepared : Reading → Type 0
NoneIsPrepared reading = IsNoNext is_prepared_first reading.limit reading.place

-- how many steps may be made for a request
abbrev pub most_steps : ℕ
most_steps = 16777216

-- it was looked at, before or now, and isn't one that is prepared first
abbrev pub IsLookedAt : Reading → Behind → Type 0
IsLookedAt reading behind = behind ≡ Nothing → NoneIsPrepared reading

-- the next request is prepared
abbrev pub is_preparing : Behind → Bool
is_preparing (Prepares left) = true
is_preparing behind = false

-- how many steps end that at most
abbrev pub step_bound : Behind → ℕ
step_bound (Prepares left) = left + 1
step_bound behind = 0

-- behind its number, where that is below this one and its next request is prepared
abbrev pub prepared_below : (below : ℕ) → Connection → ℕ
prepared_below below c =
    if is_preparing c.behind then if nat_lt c.number below then c.number + 1 else 0 else 0

-- so it is with none of these at a greater number
abbrev pub HaveAtMost : List Connection → (below most : ℕ) → Type 0
HaveAtMost connections below most = (j : ℕ) (c : Connection) → j < length connections
    → c ≡ get_or connections j c → prepared_below below c ≤ most

-- of those below a number whose next request is prepared this one has the greatest
abbrev pub IsGreatestBelow : List Connection → (below i : ℕ) → Type 0
IsGreatestBelow connections below i = (i < length connections)
    × ((c : Connection) → c ≡ get_or connections i c → (0 < prepared_below below c)
    × HaveAtMost connections below (prepared_below below c))

-- it is its turn behind the last one's: the greatest below that, or where there is none the greatest of all
abbrev pub HasTurn : List Connection → (last next i : ℕ) → Type 0
HasTurn connections last next i = IsGreatestBelow connections last i
    ⊎ (HaveAtMost connections last 0 × IsGreatestBelow connections next i)

-- a step was made for it: another may follow, or it may be answered
pub data MakesStepFor (was now : Behind) : Type 0 where
  goes_on : (left : ℕ) → was ≡ Prepares (left + 1) → now ≡ Prepares left → MakesStepFor was now
  ends : (left : ℕ) → was ≡ Prepares left → now ≡ Prepared → MakesStepFor was now

module _ {A : Type 0} (call_log : A → CallLog) (may_commit : A → Bool) (condition : A → Condition) where
  -- an archive worked ahead once, and returned whether more is left
  pub record Works (old new : A) (is_left : Bool) : Type 0 where
    pub asked : Runs (WorkedAhead is_left) (call_log old) (call_log new)
    pub commits : CommitsIfDue (may_commit old) (may_commit new) (condition old) (condition new)
    pub rests : KeepsEachState (condition old) (condition new)

  -- and this is what it returned
  abbrev pub WorksAs : (old new : A) → Option Bool → Type 0
  WorksAs old new (Some is_left) = Works old new is_left
  WorksAs old new None = ⊥
