-- What a request's step is, by the ruling on it.
use Rattle.std.proofs.Common.{◌≡◌, ℕ, Bool, true, false, Option, Some, None, Result, Ok, Err, IfOk, OnOk, IsTrue, min, inl, inr, refl, sym, ap, subst, ◌∙◌, arith}
use Rattle.std.specs.Prelude.{option_and_then, if◌then◌else◌}
use Rattle.std.specs.Option.{option_map, option_map_or, option_or}
use Rattle.sqlite.specs.Effect.{Database}
use Rattle.sqlite.specs.State as db
use Rattle.sqlite.proofs.StateLemmas.{unchanged}
use Rattle.dep_types.specs.Limits.{greatest_moment}
use Rattle.dep_types.specs.Numbers.{counters_after}
use Rattle.dep_types.specs.Maps.{◌>>=◌}
use Rattle.dep_types.specs.Rows.{file_row}
use Rattle.dep_types.specs.State.{State, File, file_at}
use Rattle.dep_types.specs.declared.rows.FileRow.{FileRow}
use Rattle.dep_types.specs.declared.target.Method.{Method}
use Rattle.dep_types.specs.declared.target.Method.TheVariants.{Get, Head, Post, Put, Delete}
use Rattle.dep_types.specs.declared.target.Resource.{Resource}
use Rattle.dep_types.specs.declared.target.Resource.TheVariants as resource
use Rattle.dep_types.specs.Sound.{IsSound}
use Rattle.dep_types.specs.declared.config.Config.{Config}
use Rattle.dep_types.specs.declared.counters.Counters.{Counters}
use Rattle.dep_types.specs.declared.refusal.Refusal.{Refusal}
use Rattle.dep_types.specs.declared.store_fault.StoreFault.{StoreFault}
use Rattle.dep_fields.specs.Fit.{AreFit}
use Rattle.dep_decisions.specs.Decisions.{decision, numbers_for}
use Rattle.dep_decisions.specs.Effects.{effect}
use Rattle.dep_decisions.specs.Rules.{refusal}
use Rattle.dep_decisions.specs.declared.decision.Decision.{Decision}
use Rattle.dep_decisions.specs.declared.operation.Operation.{Operation}
use Rattle.dep_operations.specs.Rulings.{IsRuling}
use Rattle.dep_operations.specs.Views.{file_in, object_in, path_in, true_view}
use Rattle.dep_operations.specs.declared.ruling.Ruling.{Ruling}
use Rattle.dep_operations.specs.declared.ruling.Ruling.TheVariants.{Do, Refuse}
use Rattle.dep_operations.specs.declared.view.View.{View}
use Rattle.dep_types.specs.Methods.{is_safe}
use Rattle.dep_decisions.proofs.Accepted.{effect_sound}
use Rattle.dep_decisions.proofs.ReadAlone.{reads_keep}
use Rattle.dep_answers.specs.Performing.{IsReady, IsReply}
use Rattle.dep_answers.specs.Replies.{answer_to, refused_answer}
use Rattle.dep_answers.specs.Steps.{operation_step, step_by, answered_step, accepted_answer, refused_step, accepted_step, is_head}
use Rattle.dep_answers.specs.ReadSets.{shown_at, read_set_of}
use Rattle.dep_answers.specs.declared.performed.Delivery.{Delivery}
use Rattle.dep_answers.specs.declared.performed.Performed.{Performed}
use Rattle.dep_answers.specs.declared.read_set.Shown.{Shown}
use Rattle.dep_answers.specs.declared.read_set.Shown.TheVariants as shown
use Rattle.dep_answers.specs.declared.read_set.ReadSet.{ReadSet}
use Rattle.dep_answers.specs.declared.read_set.ReadSet.TheVariants as read_set
use Rattle.dep_tables.specs.Clauses.{ReadsOnly, StaysWithin}
use Rattle.dep_tables.specs.Tables.{HasOurTables, IsOurs, tables_in}
use Rattle.dep_tables.proofs.Results.{ok_then}
use Rattle.dep_row_maps.specs.TablesAre.{TablesAre}
use Rattle.dep_row_maps.specs.Clauses.{ChangesWithin, SeesState}
use Rattle.dep_views.specs.Seen.{file_at_path}
use Rattle.dep_views.specs.declared.view.LoadedView.{LoadedView}
use Rattle.dep_requests.specs.declared.performing.Ruled.{Ruled}
use Rattle.dep_requests.specs.Performing.{ChangesNothing, IsDigestedFor, IsLookedUp, AsksToBeShown, Rules, SeesTruly, SeesFor, row_for}

-- a step leaves a sound state
pub step_sound : (config : Config) (s : State) (op : Operation) → AreFit op.fields → IsSound s → IsSound (operation_step config s op).state
unfolding operation_step
step_sound config s op fit sound = either (refusal config s op) refl
  where
    either : (found : Option Refusal) → refusal config s op ≡ found → IsSound (step_by config s op found).state
    either None e = effect_sound config s op fit e sound
    either (Some r) e = sound

-- the same tables are of the same state
pub sees_still : (old new : db.State) (s : State) → new.now ≡ old.now → SeesState old s → SeesState new s
sees_still old new s still are = subst (λ (d : Database). TablesAre (tables_in d.trees) s) (sym still) are

-- what changes nothing is refused or shown
pub only_reads : (config : Config) (s : State) (op : Operation) (r : Ruling) → IsRuling config s op r → ChangesNothing config s op → AsksToBeShown r
only_reads config s op (Refuse r) is nothing = tt
only_reads config s op (Do d) is (inl refused) = absurd (refused is.0)
only_reads config s op (Do d) is (inr show) = is.1 ∙ show

-- so it is just of these
pub reads_alike : (config : Config) (s : State) (op : Operation) (r : Ruling) → IsRuling config s op r → AsksToBeShown r → ChangesNothing config s op
reads_alike config s op (Refuse r) is only = inl (λ none. let both = sym is ∙ none in cc both)
reads_alike config s op (Do d) is only = inr (sym is.1 ∙ only)

-- what reads behind a call that left the transaction alone
pub reads_alone : {T A E : Type 0} (state : T → db.State) (old mid new : T) (r : Result A E) → mid ≡ old → (IsTrue (state mid).is_open → ReadsOnly (state mid) (state new) r)
    → IsTrue (state old).is_open → ReadsOnly (state old) (state new) r
reads_alone {T} state old mid new r same reads = subst (λ (tx : T). IsTrue (state tx).is_open → ReadsOnly (state tx) (state new) r) same reads

-- what leaves the rows leaves our tables
pub changes_still : {T L A E : Type 0} {lenders : T → L} {state : T → db.State} {old new : T} {r : Result A E} → StaysWithin lenders state old new r
    → (db.HasCleanDisk (state new) → IsOurs (state old) → OnOk r ((state new).now ≡ (state old).now)) → ChangesWithin lenders state old new r
changes_still {r = r} stays still = record { stays = stays; ours = λ clean inside ours. ok_then r (still clean ours) (λ same. subst HasOurTables (sym same) ours) }

-- what was left alone is unchanged
pub left_alone : {T : Type 0} (state : T → db.State) (old new : T) → new ≡ old → IsTrue (state old).is_open → db.IsUnchanged (state old) (state new)
left_alone {T} state old new same is_open = subst (λ (tx : T). db.IsUnchanged (state old) (state tx)) (sym same) (unchanged (state old) is_open)

-- ---- what was ruled by what was loaded

-- with the digests of uploads
pub rules_seen : (config : Config) (s : State) (op : Operation) (loaded : LoadedView) (ruling : Ruling) → IsDigestedFor config s op loaded
    → (loaded.view ≡ true_view config s op → IsRuling config s op ruling) → Rules config s op (record { view = loaded.view; payload = loaded.payload; ruling = ruling })
rules_seen config s op loaded ruling is rules =
    let view : loaded.view ≡ true_view config s op = ap (λ (l : LoadedView). l.view) is in
    record { clock = ap (λ (v : View). v.clock) view; ruling = rules view; seen = for ruling view }
  where
    for : (r : Ruling) → loaded.view ≡ true_view config s op → SeesFor config s op (record { view = loaded.view; payload = loaded.payload; ruling = ruling }) r
    for (Refuse r) view = tt
    for (Do d) view = record { view = view; payload = ap (λ (l : LoadedView). l.payload) is }

-- refused before any digest was taken
pub refused_early : (config : Config) (s : State) (op : Operation) (loaded : LoadedView) (looked : Option Refusal) (r : Refusal) → IsLookedUp config s op loaded looked → looked ≡ Some r
    → Rules config s op (record { view = loaded.view; payload = loaded.payload; ruling = Refuse r })
refused_early config s op loaded looked r is e = record { clock = is.clock; ruling = is.refused r e; seen = tt }

-- how the reply to a request goes out
abbrev pub delivery_for : State → Operation → Delivery
delivery_for s op = record { clock = s.clock; is_head_only = is_head op.target.method; closes = op.closes }

pub delivered : (s : State) (op : Operation) (clock : ℕ) (d : Delivery) → IsSound s → clock ≡ s.clock → d.clock ≡ min clock greatest_moment
    → d.is_head_only ≡ is_head op.target.method → d.closes ≡ op.closes → d ≡ delivery_for s op
delivered s op clock d sound same at head_only closes =
    let least : min s.clock greatest_moment ≡ s.clock = omega (arith, sound.clock) in
    let reported : d.clock ≡ s.clock = at ∙ ap (λ (n : ℕ). min n greatest_moment) same ∙ least in
    λ i. record { clock = reported i; is_head_only = head_only i; closes = closes i }

-- a request that is refused leaves the state
pub refused_then : (config : Config) (s : State) (op : Operation) (P : State → Type 0) (r : Refusal) (d : Delivery) (result : Result Performed StoreFault)
    → refusal config s op ≡ Some r → d ≡ delivery_for s op → P s
    → IfOk result (λ p. (s : State) → IsReply s (refused_answer d.clock r None) d p)
    → IfOk result (λ p. IsReady (operation_step config s op) p × P (operation_step config s op).state)
unfolding operation_step
refused_then config s op P r d (Ok p) refused same sees reported =
    let ready : IsReady (refused_step s r None (is_head op.target.method) op.closes) p =
    subst (λ (way : Delivery). IsReady (answered_step s (refused_answer way.clock r None) way.clock way.is_head_only way.closes) p) same (reported s) in
    subst (λ (found : Option Refusal). IsReady (step_by config s op found) p × P (step_by config s op found).state) (sym refused) (ready, sees)
refused_then config s op P r d (Err e) refused same sees reported = tt

-- one that is accepted is answered at the state that its effect leaves
pub accepted_then : (config : Config) (s : State) (op : Operation) (P : State → Type 0) (d : Delivery) (shown : Shown) (result : Result Performed StoreFault)
    → AreFit op.fields → IsSound s → refusal config s op ≡ None → d ≡ delivery_for s op
    → P (effect config s op) × (shown ≡ shown_at (effect config s op) (read_set_of (effect config s op).next op.target.resource op.target.method))
    → IfOk result (λ p. (s : State) → IsSound s → shown ≡ shown_at s (read_set_of s.next op.target.resource op.target.method)
    → IsReply s (answer_to config s op.target.resource op.target.method) d p)
    → IfOk result (λ p. IsReady (operation_step config s op) p × P (operation_step config s op).state)
unfolding operation_step accepted_answer
accepted_then config s op P d shown (Ok p) fit sound accepted same carried reported =
    let after = effect config s op in
    let ready : IsReady (accepted_step config s op after) p =
    subst (λ (way : Delivery). IsReady (answered_step after (answer_to config after op.target.resource op.target.method) way.clock way.is_head_only way.closes) p) same
    (reported after (effect_sound config s op fit accepted sound) carried.1) in
    subst (λ (found : Option Refusal). IsReady (step_by config s op found) p × P (step_by config s op found).state) (sym accepted) (ready, carried.0)
accepted_then config s op P d shown (Err e) fit sound accepted same carried reported = tt

-- the counters that an accepted request leaves
pub next_after : (config : Config) (s : State) (op : Operation) (view : View) (d : Decision) (next : Counters)
    → view ≡ true_view config s op → d ≡ decision config op → next ≡ counters_after view.next (numbers_for d) → next ≡ (effect config s op).next
unfolding effect
next_after config s op view d next seen is e =
    e ∙ ap (λ (v : View). counters_after v.next (numbers_for d)) seen ∙ ap (λ (x : Decision). counters_after s.next (numbers_for x)) is

-- what is shown of it then
pub shown_after : (s : State) (op : Operation) (mid new : db.State) (next : Counters) (read_set : ReadSet) (result : Result Shown StoreFault) → SeesState mid s
    → read_set ≡ read_set_of next op.target.resource op.target.method → next ≡ s.next → OnOk result (new.now ≡ mid.now)
    → IfOk result (λ shown. shown ≡ shown_at s read_set)
    → IfOk result (λ shown. SeesState new s × (shown ≡ shown_at s (read_set_of s.next op.target.resource op.target.method)))
shown_after s op mid new next read_set (Ok shown) made of same still reported = (
  sees_still mid new s still made,
  reported ∙ ap (shown_at s) (of ∙ ap (λ (n : Counters). read_set_of n op.target.resource op.target.method) same),
)
shown_after s op mid new next read_set (Err e) made of same still reported = tt

-- ---- a file that the view has

by_row : (n f : ℕ) (row : FileRow) (x : Option File) → Some row ≡ option_map (file_row n f) x
    → shown.File row ≡ option_map_or (λ (it : File). shown.File (file_row n f it)) x shown.Nothing
by_row n f row None e = absurd (cc)
by_row n f row (Some it) e = let same : row ≡ file_row n f it = cc in ap (λ (r : FileRow). shown.File r) same

abbrev file_looked_at : State → Resource → Option FileRow
file_looked_at s r = object_in r >>= (λ n. file_in r >>= (λ f. option_map (file_row n f) (file_at s n f)))

-- what is read of a file that is shown is the row that was looked at
row_seen : (s : State) (next : Counters) (r : Resource) (m : Method) (row : FileRow) → IsTrue (is_safe m) → Some row ≡ file_looked_at s r
    → shown.File row ≡ shown_at s (read_set_of next r m)
row_seen s next (resource.File n f) Get row h e = by_row n f row (file_at s n f) e
row_seen s next (resource.File n f) Head row h e = by_row n f row (file_at s n f) e
row_seen s next (resource.File n f) Post row h e = cc h
row_seen s next (resource.File n f) Put row h e = cc h
row_seen s next (resource.File n f) Delete row h e = cc h
row_seen s next resource.Service m row h e = absurd (cc)
row_seen s next (resource.Object n) m row h e = absurd (cc)
row_seen s next (resource.Metadata n) m row h e = absurd (cc)
row_seen s next (resource.FileSet n) m row h e = absurd (cc)
row_seen s next resource.Staging m row h e = absurd (cc)
row_seen s next (resource.Upload u) m row h e = absurd (cc)
row_seen s next (resource.BagList n) m row h e = absurd (cc)
row_seen s next (resource.BagFile n path) m row h e = absurd (cc)

-- ---- a payload file of a bag, whose row was looked at

in_bag : (s : State) (n : ℕ) (row : FileRow) (k : Option ℕ) (tag : ReadSet) → Some row ≡ option_and_then (λ f. option_map (file_row n f) (file_at s n f)) k
    → shown.File row ≡ shown_at s (option_map_or (λ f. read_set.File (record { object = n; file = f })) k tag)
in_bag s n row None tag e = absurd (cc)
in_bag s n row (Some f) tag e = by_row n f row (file_at s n f) e

abbrev payload_looked_at : State → Resource → Option FileRow
payload_looked_at s r = object_in r >>= (λ n. path_in r >>= file_at_path s n)

payload_seen : (s : State) (next : Counters) (r : Resource) (m : Method) (row : FileRow) → IsTrue (is_safe m) → Some row ≡ payload_looked_at s r
    → shown.File row ≡ shown_at s (read_set_of next r m)
payload_seen s next (resource.BagFile n path) Get row h e = in_bag s n row _ _ e
payload_seen s next (resource.BagFile n path) Head row h e = in_bag s n row _ _ e
payload_seen s next (resource.BagFile n path) Post row h e = cc h
payload_seen s next (resource.BagFile n path) Put row h e = cc h
payload_seen s next (resource.BagFile n path) Delete row h e = cc h
payload_seen s next resource.Service m row h e = absurd (cc)
payload_seen s next (resource.Object n) m row h e = absurd (cc)
payload_seen s next (resource.Metadata n) m row h e = absurd (cc)
payload_seen s next (resource.FileSet n) m row h e = absurd (cc)
payload_seen s next (resource.File n f) m row h e = absurd (cc)
payload_seen s next resource.Staging m row h e = absurd (cc)
payload_seen s next (resource.Upload u) m row h e = absurd (cc)
payload_seen s next (resource.BagList n) m row h e = absurd (cc)

-- ---- what is read of either is shown at the state that such a request leaves, which is the same

abbrev ShowsRow : Config → State → Operation → FileRow → Type 0
ShowsRow config s op row = (effect config s op ≡ s) × (shown.File row ≡ shown_at (effect config s op) (read_set_of (effect config s op).next op.target.resource op.target.method))

module _ (config : Config) (s : State) (op : Operation) (ruled : Ruled) (row : FileRow) (read : IsTrue (is_safe op.target.method)) (rules : SeesTruly config s op ruled) where
  shown_still : shown.File row ≡ shown_at s (read_set_of s.next op.target.resource op.target.method) → ShowsRow config s op row
  shown_still reported =
      let kept : effect config s op ≡ s = reads_keep config s op read in
      (kept, reported ∙ sym (ap (λ (after : State). shown_at after (read_set_of after.next op.target.resource op.target.method)) kept))

  row_shown : ruled.view.file ≡ Some row → ShowsRow config s op row
  row_shown has =
      let looked : Some row ≡ file_looked_at s op.target.resource = sym has ∙ ap (λ (v : View). v.file) rules.view in
      shown_still (row_seen s s.next op.target.resource op.target.method row read looked)

  payload_shown : ruled.payload ≡ Some row → ShowsRow config s op row
  payload_shown has =
      let looked : Some row ≡ payload_looked_at s op.target.resource = sym has ∙ rules.payload in
      shown_still (payload_seen s s.next op.target.resource op.target.method row read looked)

-- ---- so it is of the row that is known of the one or the other

module _ (config : Config) (s : State) (op : Operation) (ruled : Ruled) (rules : SeesTruly config s op ruled) (reported : Shown) where
  abbrev ShowsReported : Type 0
  ShowsReported = (effect config s op ≡ s) × (reported ≡ shown_at (effect config s op) (read_set_of (effect config s op).next op.target.resource op.target.method))

  of_row : (row : FileRow) → reported ≡ shown.File row → ShowsRow config s op row → ShowsReported
  of_row row is shows = (shows.0, is ∙ shows.1)

  pub row_known_shown : Some reported ≡ option_map shown.File (row_for op ruled) → ShowsReported
  row_known_shown known = go (is_safe op.target.method) refl known
    where
      from : (a b : Option FileRow) → ruled.view.file ≡ a → ruled.payload ≡ b → IsTrue (is_safe op.target.method) → Some reported ≡ option_map shown.File (option_or a b) → ShowsReported
      from (Some row) b of_view of_bag read e = let same : reported ≡ shown.File row = cc in of_row row same (row_shown config s op ruled row read rules of_view)
      from None (Some row) of_view of_bag read e = let same : reported ≡ shown.File row = cc in of_row row same (payload_shown config s op ruled row read rules of_bag)
      from None None of_view of_bag read e = absurd (cc)

      go : (read : Bool) → is_safe op.target.method ≡ read → Some reported ≡ option_map shown.File (if read then option_or ruled.view.file ruled.payload else None) → ShowsReported
      go true is e = from ruled.view.file ruled.payload refl refl is e
      go false is e = absurd (cc)
