-- What may be cached of a state between requests.
use Rattle.std.specs.Prelude.{◌≡◌, ◌≤◌, ◌-◌, ℕ, nat_lt, Bool, true, false, not, ◌&&◌, [], Option, Some, None, IsTrue}
use Rattle.std.specs.Option.{option_map_or}
use Rattle.std.specs.FinMap as map
use Rattle.dep_types.specs.Maps.{Numbered}
use Rattle.dep_types.specs.State.{State, Upload}
use Rattle.dep_types.specs.declared.config.Config.{Config}
use Rattle.dep_answers.specs.Performing.{IsReady}
use Rattle.dep_answers.specs.Steps.{is_head, operation_step}
use Rattle.dep_answers.specs.declared.performed.Performed.{Performed}
use Rattle.dep_fields.specs.declared.field.Field.{Field}
use Rattle.dep_fields.specs.declared.field.Field.TheVariants.{Absent, Bad, Value}
use Rattle.dep_types.specs.declared.counters.Counters.{Counters}
use Rattle.dep_types.specs.declared.target.Resource.TheVariants.{Service}
use Rattle.dep_types.specs.declared.target.Target.{Target}
use Rattle.dep_answers.specs.ReadSets.{read_set_at, reads_many_rows}
use Rattle.dep_decisions.specs.declared.operation.Operation.{Operation}
use Rattle.dep_operations.specs.declared.view.View.{View}
use Rattle.dep_types.specs.Methods.{is_safe}
use Rattle.dep_requests.specs.declared.caching.Cache.{Cache}

-- there is such an upload, and it was left alone for longer than this
abbrev pub is_left : (max_idle clock : ℕ) → Numbered Upload → ℕ → Bool
is_left max_idle clock uploads u =
    option_map_or (λ it. nat_lt max_idle (clock - it.last)) (map.get uploads u) false

-- no upload of the state was left alone for longer than this
abbrev pub HasNoneLeft : (max_idle : ℕ) → State → Type 0
HasNoneLeft max_idle s = (u : ℕ) → is_left max_idle s.clock s.uploads u ≡ false

-- the state's clock and counters; and no upload of it was left alone for longer
pub record IsCacheOf (m : Cache) (s : State) : Type 0 where
  pub clock : m.clock ≡ s.clock
  pub next : m.next ≡ s.next
  pub none_left : HasNoneLeft m.max_idle s

-- what may be cached was read at this moment or later, by the configured idle time
abbrev pub Covers : Config → (moment : ℕ) → Option Cache → Type 0
Covers config moment found = (m : Cache) → found ≡ Some m
    → (moment ≤ m.clock) × (m.max_idle ≡ config.staging_max_idle)

-- the request reads the service document
pub record ReadsService (op : Operation) : Type 0 where
  pub resource : op.target.resource ≡ Service
  pub method : IsTrue (is_safe op.target.method)

-- what it touches: the clock and the counters
abbrev pub service_view : (clock : ℕ) → Counters → View
service_view clock next = record {
  clock = clock;
  next = next;
  object = None;
  file = None;
  has_path = false;
  uploads = [];
  repeats = None;
  references = None;
}

-- the reply of its step is ready, which changes nothing
abbrev pub IsShown : Config → Operation → State → Performed → Type 0
IsShown config op s performed = IsReady (operation_step config s op) performed
    × ((operation_step config s op).state ≡ s)

-- the field has a value
abbrev pub has_value : {X : Type 0} → Field X → Bool
has_value (Value x) = true
has_value Absent = false
has_value Bad = false

-- a reply that shows this is made of all the texts or files of an object
abbrev pub lists_many_rows : Target → Bool
lists_many_rows target = reads_many_rows (read_set_at target.resource (is_head target.method))

-- the request only reads, not all the texts or files of an object, and its head speaks of no content that would be kept
abbrev pub is_plain_read : Operation → Bool
is_plain_read op = is_safe op.target.method
    && not (has_value op.fields.disposition) && not (has_value op.fields.content_type)
    && not (lists_many_rows op.target)
