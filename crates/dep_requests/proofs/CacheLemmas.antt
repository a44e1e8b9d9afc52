-- What is cached of a state: a tick that changes nothing, and what a request for the service document sees.
use Rattle.std.proofs.Common.{◌≡◌, ◌∙◌, ℕ, ◌≤◌, ◌<◌, ◌-◌, min, max, Bool, true, false, cond, not, ◌||◌, ◌&&◌, if◌then◌else◌, Option, Some, None, is_some, refl, sym, ap, subst, IsTrue, arith, nat_lt}
use Rattle.std.specs.Option.{option_map_or}
use Rattle.std.specs.Cmp.{nat_cmp_total}
use Rattle.std.specs.FinMap as map
use Rattle.std.specs.FinSet as set
use Rattle.dep_types.specs.Limits.{greatest_moment}
use Rattle.dep_types.specs.Maps.{Numbered, Numbers}
use Rattle.dep_types.specs.State.{State, Upload, tick, clock_at, expires, expired, unexpired}
use Rattle.dep_types.specs.declared.config.Config.{Config}
use Rattle.dep_types.specs.declared.target.Method.{Method}
use Rattle.dep_types.specs.declared.target.Method.TheVariants.{Get, Head, Post, Put, Delete}
use Rattle.dep_types.specs.declared.target.Resource.{Resource}
use Rattle.dep_types.specs.declared.target.Resource.TheVariants.{Service}
use Rattle.dep_types.proofs.TickLemmas.{get-unexpired, contains-expired}
use Rattle.dep_fields.specs.declared.field.Field.{Field}
use Rattle.dep_fields.specs.declared.field.Field.TheVariants.{Absent, Bad, Value}
use Rattle.dep_fields.specs.declared.kind.Kind.{Kind}
use Rattle.dep_decisions.specs.Decisions.{references_in, references_by}
use Rattle.dep_decisions.specs.Kinds.{content_kind, kind_by, kind_without, takes_kind, may_hold}
use Rattle.dep_decisions.specs.declared.operation.Operation.{Operation}
use Rattle.dep_operations.specs.Views.{true_view, seen_at, touched_with}
use Rattle.dep_types.specs.Methods.{is_safe}
use Rattle.dep_answers.specs.ReadSets.{shown_at, read_set_of}
use Rattle.dep_answers.specs.declared.read_set.Shown.TheVariants as shown
use Rattle.dep_tables.specs.Tables.{Tables}
use Rattle.dep_tables.specs.declared.state.StateRow.{StateRow}
use Rattle.dep_row_maps.specs.Stored.{state_row}
use Rattle.dep_row_maps.specs.TablesAre.{TablesAre}
use Rattle.dep_row_maps.specs.Left.{was_left_before, ReportsLeft}
use Rattle.dep_row_maps.proofs.Left.{left_before_read}
use Rattle.dep_tables.specs.Edits.{IsLeftBefore}
use Rattle.dep_tables.specs.declared.uploads.LeftUpload.{LeftUpload}
use Rattle.std.proofs.lemmas.Bool.Decides.{nat_tests}
use Rattle.dep_requests.specs.declared.caching.Cache.{Cache}
use Rattle.dep_requests.specs.Caching.{IsCacheOf, HasNoneLeft, ReadsService, is_left, service_view}

-- ---- the tick

all_left : (config : Config) (c : ℕ) (us : Numbered Upload) → ((q : ℕ) → expires config c us q ≡ false) → unexpired config c us ≡ us
all_left config c us none = map.same_map nat_cmp_total map.nat_cmp-IsAntisymmetric _ _ (λ q.
    get-unexpired config c us q ∙ ap (λ b. cond (not b) (map.get us q) None) (none q))

or-nothing : (b : Bool) → (b || false) ≡ b
or-nothing true = refl
or-nothing false = refl

none_more : (config : Config) (c : ℕ) (us : Numbered Upload) (t : Numbers) → ((q : ℕ) → expires config c us q ≡ false)
    → set.union t (set.from_list (map.keys (expired config c us))) ≡ t
none_more config c us t none = set.same_set nat_cmp_total set.nat_cmp-IsAntisymmetric _ _ (λ q.
    set.contains-union nat_cmp_total t _ q
    ∙ ap (λ b. set.contains t q || b) (contains-expired config c us q ∙ ap (λ b. is_some (cond b (map.get us q) None)) (none q))
    ∙ or-nothing (set.contains t q))

clock_stays : (clock moment : ℕ) → moment ≤ clock → max clock (min moment greatest_moment) ≡ clock
clock_stays clock moment before = omega arith

-- where no upload is idle, a tick at no later moment changes nothing
pub ticks_still : (config : Config) (s : State) (moment : ℕ) → moment ≤ s.clock → ((q : ℕ) → expires config s.clock s.uploads q ≡ false)
    → tick config s moment ≡ s
ticks_still config s moment before none =
    let same : clock_at s moment ≡ s.clock = clock_stays s.clock moment before in
    (λ i. record s {
      clock = same i;
      uploads = unexpired config (same i) s.uploads;
      timed_out = set.union s.timed_out (set.from_list (map.keys (expired config (same i) s.uploads)));
    }) ∙ (λ i. record s {
      uploads = all_left config s.clock s.uploads none i;
      timed_out = none_more config s.clock s.uploads s.timed_out none i;
    })

pub cached_tick : (config : Config) (s : State) (moment : ℕ) (m : Cache) → IsCacheOf m s → moment ≤ m.clock → config.staging_max_idle ≡ m.max_idle
    → tick config s moment ≡ s
cached_tick config s moment m is_cache before idle =
    ticks_still config s moment (subst (λ (c : ℕ). moment ≤ c) is_cache.clock before)
    (subst (λ (n : ℕ). (u : ℕ) → is_left n s.clock s.uploads u ≡ false) (sym idle) is_cache.none_left)

-- to be left for longer is to be last written to before a moment
same_moment : (most clock last : ℕ) → nat_lt most (clock - last) ≡ nat_lt last (clock - most)
same_moment most clock last = grind (arith, nat_tests)

left_is : (max_idle clock : ℕ) (us : Numbered Upload) (u : ℕ) → is_left max_idle clock us u ≡ was_left_before (clock - max_idle) us u
left_is max_idle clock us u = go (map.get us u)
  where
    go : (o : Option Upload) → option_map_or (λ (it : Upload). nat_lt max_idle (clock - it.last)) o false ≡ option_map_or (λ (it : Upload). nat_lt it.last (clock - max_idle)) o false
    go None = refl
    go (Some it) = same_moment max_idle clock it.last

-- where none is told, none was left
pub none_was_left : (max_idle clock : ℕ) (t : Tables) (s : State) (found : Option LeftUpload) → TablesAre t s → IsLeftBefore (clock - max_idle) t found → is_some found ≡ false
    → (u : ℕ) → is_left max_idle clock s.uploads u ≡ false
none_was_left max_idle clock t s found are read none u = go found none (left_before_read t s are (clock - max_idle) found read)
  where
    go : (found : Option LeftUpload) → is_some found ≡ false → ReportsLeft (clock - max_idle) s.uploads found → is_left max_idle clock s.uploads u ≡ false
    go None h reports = left_is max_idle clock s.uploads u ∙ reports u
    go (Some l) h reports = absurd (cc)

-- a moment that is no later than the clock is not behind the row's
pub not_earlier : (row : StateRow) (s : State) (moment : ℕ) → row ≡ state_row s → row.clock < moment → moment ≤ s.clock → ⊥
not_earlier row s moment is early late = go row.clock s.clock (ap (λ (r : StateRow). r.clock) is) early late
  where
    go : (read clock : ℕ) → read ≡ clock → read < moment → moment ≤ clock → ⊥
    go read clock same early late = omega arith

-- where one is told, one was left
pub some_was_left : (max_idle : ℕ) (t : Tables) (s : State) (found : Option LeftUpload) → TablesAre t s → IsLeftBefore (s.clock - max_idle) t found → HasNoneLeft max_idle s
    → is_some found ≡ false
some_was_left max_idle t s found are read none = go found (left_before_read t s are (s.clock - max_idle) found read)
  where
    go : (found : Option LeftUpload) → ReportsLeft (s.clock - max_idle) s.uploads found → is_some found ≡ false
    go None reports = refl
    go (Some l) reports = sym reports ∙ sym (left_is max_idle s.clock s.uploads l.upload) ∙ none l.upload

-- what was read of the state, where none was left
pub read_cached : (row : StateRow) (s : State) (max_idle : ℕ) (m : Cache) → row ≡ state_row s → ((u : ℕ) → is_left max_idle row.clock s.uploads u ≡ false)
    → record { clock = row.clock; next = row.next; max_idle = max_idle } ≡ m → IsCacheOf m s
read_cached row s max_idle m is none same = subst (λ (it : Cache). IsCacheOf it s) same (record {
  clock = ap (λ (r : StateRow). r.clock) is;
  next = ap (λ (r : StateRow). r.next) is;
  none_left = subst (λ (n : ℕ). (u : ℕ) → is_left max_idle n s.uploads u ≡ false) (ap (λ (r : StateRow). r.clock) is) none;
})

-- what is known still was known, and nothing was changed
pub known_still : (b : Bool) (o : Option Cache) (m : Cache) → (if b then None else o) ≡ Some m → (o ≡ Some m) × (b ≡ false)
known_still true o m is = absurd (cc)
known_still false o m is = (is, refl)

-- nothing is not something
pub none_is : {X : Type 0} {x : X} → None ≡ Some x → ⊥
none_is is = cc is

-- ---- the service document

takes_none_at : (m : Method) (k : Kind) → IsTrue (is_safe m) → takes_kind Service m k ≡ false
takes_none_at Get k h = refl
takes_none_at Head k h = refl
takes_none_at Post k h = cc h
takes_none_at Put k h = cc h
takes_none_at Delete k h = cc h

takes_none : (op : Operation) (k : Kind) → ReadsService op → takes_kind op.target.resource op.target.method k ≡ false
takes_none op k reads = subst (λ (r : Resource). takes_kind r op.target.method k ≡ false) (sym reads.resource) (takes_none_at op.target.method k reads.method)

kind_none : (op : Operation) → ReadsService op → content_kind op ≡ None
unfolding content_kind
kind_none op reads = each op.fields.disposition
  where
    each : (d : Field Kind) → kind_by op d ≡ None
    each (Value k) = ap (λ (b : Bool). if (b && may_hold k op.content) then Some k else None) (takes_none op k reads)
    each Bad = refl
    each Absent = subst (λ (r : Resource). kind_without r op.target.method ≡ None) (sym reads.resource) refl

references_none : (config : Config) (op : Operation) → ReadsService op → references_in config op ≡ None
unfolding references_in
references_none config op reads = ap (references_by config op) (kind_none op reads)

pub service_seen : (config : Config) (s : State) (op : Operation) (m : Cache) → ReadsService op → IsCacheOf m s
    → service_view m.clock m.next ≡ true_view config s op
service_seen config s op m reads is_cache =
    (λ i. service_view (is_cache.clock i) (is_cache.next i))
    ∙ sym (λ i. seen_at s op.content (touched_with (reads.resource i) (kind_none op reads i) (references_none config op reads i)))

shows_nothing_at : (s : State) (m : Method) → IsTrue (is_safe m) → shown.Nothing ≡ shown_at s (read_set_of s.next Service m)
shows_nothing_at s Get h = refl
shows_nothing_at s Head h = refl
shows_nothing_at s Post h = cc h
shows_nothing_at s Put h = cc h
shows_nothing_at s Delete h = cc h

pub shows_nothing : (s : State) (op : Operation) → ReadsService op → shown.Nothing ≡ shown_at s (read_set_of s.next op.target.resource op.target.method)
shows_nothing s op reads =
    subst (λ (r : Resource). shown.Nothing ≡ shown_at s (read_set_of s.next r op.target.method)) (sym reads.resource) (shows_nothing_at s op.target.method reads.method)
