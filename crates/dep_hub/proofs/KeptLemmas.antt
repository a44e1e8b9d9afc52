-- A file that is being sent stays, where a request doesn't take it.
use Rattle.std.proofs.Common.{◌≡◌, ◌≢◌, inl, inr, ℕ, ◌==◌, ◌≤◌, Bool, true, false, List, [], ◌∷◌, ◌++◌, length, Option, Some, None, if◌then◌else◌, refl, sym, ap, subst, ◌∙◌, arith}
use Rattle.std.proofs.lemmas.Bool.{eqb-true}
use Rattle.std.proofs.lemmas.Bool.Decides.{nat_tests}
use Rattle.dep_types.specs.State.{State, File, file_at, tick}
use Rattle.dep_types.specs.Sound.{IsSound}
use Rattle.dep_types.specs.Conditions.{Condition}
use Rattle.dep_types.specs.declared.config.Config.{Config}
use Rattle.dep_types.specs.declared.refusal.Refusal.{Refusal}
use Rattle.dep_types.proofs.TickSound.{keeps_sound}
use Rattle.dep_decisions.specs.Rules.{refusal}
use Rattle.dep_decisions.specs.declared.operation.Operation.{Operation}
use Rattle.dep_decisions.specs.Laws.{has_file_in, takes_file}
use Rattle.dep_decisions.proofs.FilesStay.{file_stays}
use Rattle.dep_answers.specs.Steps.{step_by, operation_step}
use Rattle.dep_answers.specs.declared.performed.StoredFile.{StoredFile}
use Rattle.dep_message.specs.Showing.{IsNoNext}
use Rattle.dep_message.specs.Places.{Place, Open, Reading, place_with}
use Rattle.dep_message.proofs.OneReading.{one_at, one_spelling}
use Rattle.dep_message.proofs.Reading.{first_more, reads_more}
use Rattle.dep_message.specs.Stream.{Item, Fault, Continue, Request, FirstAt, ReadsItems, Spells}
use Rattle.dep_message.specs.declared.message.Message.{Message}
use Rattle.dep_router.specs.Targets.{target}
use Rattle.dep_router.specs.declared.routed.Routed.{Routed}
use Rattle.dep_router.specs.declared.routed.Routed.TheVariants.{To, NotFound, NotAllowed}
use Rattle.dep_exchange.specs.Machine.{operation_of, routed_step, step, starting_state, state_after, Fails, given_up, cut_short, Serves, serves_all, step_fails, gives_up}
use Rattle.dep_exchange.specs.Records.{Line, Arrives, ReadsBeyond, at_live, at_shut_line, Arrive, Run, goes_on, arrives, with_line}
use Rattle.dep_hub.specs.Representing.{intake_of, store_of}
use Rattle.dep_hub.specs.Holding.{IsHeldAs, items_served, items_answered}
use Rattle.dep_hub.specs.Owed.{IsOwed}
use Rattle.dep_hub.specs.RepresentsOwing.{RepliesKeep, behind_at, RepliesAdd, SendingRepresents}
use Rattle.dep_hub.specs.declared.connections.Connection.{Connection}
use Rattle.dep_hub.proofs.BehindLemmas.{or_parts}
use Rattle.dep_hub.proofs.Endings.{place_twice}
use Rattle.dep_exchange.specs.declared.arrived.Arrived.{Arrived}
use Rattle.dep_hub.specs.declared.rest.Behind.{Behind}
use Rattle.dep_exchange.specs.declared.rest.Rest.{Rest}
use Rattle.dep_hub.specs.declared.rest.Behind.TheVariants.{Nothing, Content, Broken, Waits, Prepares, Prepared}
use Rattle.dep_hub.specs.declared.claim.Claim.{Claim}
use Rattle.dep_hub.specs.declared.claim.Claim.TheVariants.{Takes, Reads as ReadsFile, Neither}
use Rattle.dep_hub.specs.Claims.{claim_by, claim_of, claim_to, has_to_wait, is_in_the_way, taken_of}
use Rattle.dep_head.specs.Head.{HeadParts}
use Rattle.dep_types.specs.declared.target.Resource.{Resource}
use Rattle.dep_types.specs.declared.target.Resource.TheVariants.{Object, FileSet, File as AFile}
use Rattle.dep_types.specs.declared.target.Method.{Method}
use Rattle.dep_types.specs.declared.target.Method.TheVariants.{Put, Delete}
use Rattle.dep_hub.specs.declared.hub.Hub.{Hub}

-- ---- requests that leave a content that is being sent as it is

-- an item doesn't take the file
abbrev Spares : Behind → Item → Type 0
Spares b (Request m) = is_in_the_way (claim_of m.head) b ≡ false
Spares b (Fault refusal head_only) = Unit {0}
Spares b Continue = Unit {0}

abbrev AllSpare : Behind → List Item → Type 0
AllSpare b [] = Unit {0}
AllSpare b (item ∷ items) = Spares b item × AllSpare b items

abbrev ServingSpares : (b : Behind) → {config : Config} {reads : List Item → Place → Type 0} {s : State}
    {moment : ℕ} {sent : List ℕ} {left : State} {at : Place} {answer : Arrived} → Serves config reads s moment sent left at answer → Type 0
ServingSpares b (serves_all items reads waits) = AllSpare b items
ServingSpares b (step_fails items item at reads fails) = AllSpare b items × Spares b item
ServingSpares b (gives_up items at reads some sends) = AllSpare b items

-- so do all items that an arrival answers
abbrev ArrivalSpares : (b : Behind) → {config : Config} {piece : List ℕ} {moment : ℕ} {line after : Line}
    {s left : State} {sent : List ℕ} {answer : Arrived} → Arrives config piece moment line s sent left after answer → Type 0
ArrivalSpares b (at_live serves) = ServingSpares b serves
ArrivalSpares b at_shut_line = Unit {0}

-- by what it has to do with files
put_spares : (r : Rest) (resource : Resource) → is_in_the_way (taken_of resource) (Content r) ≡ false → has_file_in r.file.object r.file.file resource ≡ false
put_spares r (Object m) e = e
put_spares r (FileSet m) e = e
put_spares r (AFile m f) e = e
put_spares r resource e = refl

target_spares : (r : Rest) (resource : Resource) (method : Method) → is_in_the_way (claim_to resource method) (Content r) ≡ false
    → takes_file r.file.object r.file.file (record { resource = resource; method = method }) ≡ false
target_spares r resource Put e = put_spares r resource e
target_spares r resource Delete e = put_spares r resource e
target_spares r resource method e = refl

module _ (config : Config) (it : StoredFile) (file : File) where
  abbrev StaysFile : State → Type 0
  StaysFile s = file_at s it.object it.file ≡ Some file

  by_refusal : (s : State) (op : Operation) (o : Option Refusal) → takes_file it.object it.file op.target ≡ false → IsSound s → StaysFile s
      → StaysFile (step_by config s op o).state
  by_refusal s op (Some r) spares sound h = h
  by_refusal s op None spares sound h = file_stays config s op it.object it.file file sound h spares

  by_operation : (s : State) (op : Operation) → takes_file it.object it.file op.target ≡ false → IsSound s → StaysFile s → StaysFile (operation_step config s op).state
  unfolding operation_step
  by_operation s op spares sound h = by_refusal s op (refusal config s op) spares sound h

  by_route : (s : State) (m : Message) (r : Routed) (start : ℕ) → is_in_the_way (claim_by r) (Content (record { file = it; sent = start })) ≡ false → IsSound s → StaysFile s
      → StaysFile (routed_step config s m r).state
  by_route s m NotFound start spares sound h = h
  by_route s m (NotAllowed methods) start spares sound h = h
  by_route s m (To t) start spares sound h =
      by_operation s (operation_of m t) (target_spares (record { file = it; sent = start }) t.resource t.method spares) sound h

  by_step : (s : State) (item : Item) (moment start : ℕ) → Spares (Content (record { file = it; sent = start })) item → IsSound s → StaysFile s → StaysFile (step config s item moment).state
  unfolding step
  by_step s (Fault r head_only) moment start spares sound h = h
  by_step s Continue moment start spares sound h = h
  by_step s (Request m) moment start spares sound h = by_route (tick config s moment) m (target m.head.method m.head.path) start spares (keeps_sound config s moment sound) h

  by_start : (s : State) (item : Item) (moment : ℕ) → StaysFile s → StaysFile (starting_state config s item moment)
  by_start s (Fault r head_only) moment h = h
  by_start s Continue moment h = h
  by_start s (Request m) moment h = h

-- what is owed of a content
owed_step : (config : Config) (s : State) (item : Item) (moment : ℕ) (b : Behind) (owed : List ℕ) → Spares b item → IsSound s → IsOwed s b owed
    → IsOwed (step config s item moment).state b owed
owed_step config s item moment Nothing owed spares sound h = h
owed_step config s item moment Broken owed spares sound h = h
owed_step config s item moment (Waits claim) owed spares sound h = h
owed_step config s item moment (Prepares left) owed spares sound h = h
owed_step config s item moment Prepared owed spares sound h = h
owed_step config s item moment (Content r) owed spares sound h =
    record { file = h.file; held = by_step config r.file h.file s item moment r.sent spares sound h.held; is = h.is }

owed_start : (config : Config) (s : State) (item : Item) (moment : ℕ) (b : Behind) (owed : List ℕ) → IsOwed s b owed → IsOwed (starting_state config s item moment) b owed
owed_start config s item moment Nothing owed h = h
owed_start config s item moment Broken owed h = h
owed_start config s item moment (Waits claim) owed h = h
owed_start config s item moment (Prepares left) owed h = h
owed_start config s item moment Prepared owed h = h
owed_start config s item moment (Content r) owed h = record { file = h.file; held = by_start config r.file h.file s item moment h.held; is = h.is }

owed_failed : (config : Config) (s : State) (item : Item) (moment : ℕ) (b : Behind) (owed : List ℕ) {sent : List ℕ} {left : State} {answer : Arrived}
    → Fails config s item moment sent left answer → Spares b item → IsSound s → IsOwed s b owed → IsOwed left b owed
owed_failed config s item moment b owed (given_up fixed sends (inl same)) spares sound h = subst (λ (x : State). IsOwed x b owed) (sym same) h
owed_failed config s item moment b owed (given_up fixed sends (inr begun)) spares sound h =
    subst (λ (x : State). IsOwed x b owed) (sym begun) (owed_start config s item moment b owed h)
owed_failed config s item moment b owed (cut_short part made) spares sound h =
    subst (λ (x : State). IsOwed x b owed) (sym made) (owed_step config s item moment b owed spares sound h)

too_many : (x y : Item) (items : List Item) → length (x ∷ y ∷ items) ≤ 1 → ⊥
too_many x y items l = omega (arith, l)

owed_items : (config : Config) (s : State) (items : List Item) (moment : ℕ) (b : Behind) (owed : List ℕ) → length items ≤ 1 → AllSpare b items → IsSound s → IsOwed s b owed
    → IsOwed (state_after config s items moment) b owed
owed_items config s [] moment b owed l spares sound h = h
owed_items config s (item ∷ []) moment b owed l spares sound h = owed_step config s item moment b owed spares.0 sound h
owed_items config s (x ∷ y ∷ items) moment b owed l spares sound h = absurd (too_many x y items l)

owed_served : (config : Config) (reads : List Item → Place → Type 0) (s : State) (moment : ℕ) {sent : List ℕ} {left : State} {at : Place} {answer : Arrived}
    (v : Serves config reads s moment sent left at answer) (b : Behind) (owed : List ℕ) → items_served v ≤ 1 → ServingSpares b v → IsSound s → IsOwed s b owed → IsOwed left b owed
owed_served config reads s moment (serves_all items read waits) b owed l spares sound h = owed_items config s items moment b owed l spares sound h
owed_served config reads s moment (gives_up items at read some sends) b owed l spares sound h = owed_items config s items moment b owed l spares sound h
owed_served config reads s moment {left = left} (step_fails [] item at read fails) b owed l spares sound h = owed_failed config s item moment b owed fails spares.1 sound h
owed_served config reads s moment (step_fails (x ∷ items) item at read fails) b owed l spares sound h = absurd (omega (arith, l))

owed_arrived : (config : Config) (piece : List ℕ) (moment : ℕ) {line after : Line} {s left : State} {sent : List ℕ} {answer : Arrived}
    (a : Arrives config piece moment line s sent left after answer) (b : Behind) (owed : List ℕ) → items_answered a ≤ 1 → ArrivalSpares b a → IsSound s → IsOwed s b owed → IsOwed left b owed
owed_arrived config piece moment (at_live v) b owed l spares sound h = owed_served config _ _ moment v b owed l spares sound h
owed_arrived config piece moment at_shut_line b owed l spares sound h = h

-- ---- the items that are answered are the next of the connection

reads_after : (limit : ℕ) (xs ys : List Item) (from p q : Place) → ReadsItems limit from xs p → ReadsItems limit from (xs ++ ys) q → ReadsItems limit p ys q
reads_after limit [] ys from p q r s = subst (λ (a : Place). ReadsItems limit a ys q) (sym r) s
reads_after limit (x ∷ xs) ys from p q r s =
    let o = one_at limit from x x r.0 s.0 r.1 s.1 in
    reads_after limit xs ys r.0 p q r.2 (subst (λ (a : Place). ReadsItems limit a (xs ++ ys) q) (sym o.1) s.2)

module _ (limit : ℕ) (stream part rest : List ℕ) (head_only : Place) (before : List Item) (spells : Spells limit stream before head_only) (b : Behind)
    (spares : (item : Item) (next : Place) → FirstAt limit (place_with head_only (part ++ rest)) item next → Spares b item) where
  first_spares : (item : Item) (items : List Item) (at : Place) → ReadsBeyond limit stream part (item ∷ items) at → Spares b item
  first_spares item items at x =
      let same = one_spelling limit stream x.0 before x.1 head_only x.2 spells in
      let r = reads_after limit x.0 (item ∷ items) (Open false (stream ++ part)) (place_with x.1 part) at (reads_more limit x.0 (Open false stream) x.1 part x.2.reads) x.3 in
      spares item (place_with r.0 rest) (subst (λ (p : Place). FirstAt limit p item (place_with r.0 rest))
      (ap (λ (p : Place). place_with (place_with p part) rest) same.1 ∙ place_twice head_only part rest) (first_more limit (place_with x.1 part) item r.0 rest r.1))

  all_spare : (items : List Item) (at : Place) → length items ≤ 1 → ReadsBeyond limit stream part items at → AllSpare b items
  all_spare [] at l reads = tt
  all_spare (item ∷ []) at l reads = (first_spares item [] at reads, tt)
  all_spare (x ∷ y ∷ items) at l reads = absurd (too_many x y items l)

  serving_spares : (config : Config) (s : State) (moment : ℕ) {sent : List ℕ} {left : State} {at : Place} {answer : Arrived}
      (v : Serves config (ReadsBeyond limit stream part) s moment sent left at answer) → items_served v ≤ 1 → ServingSpares b v
  serving_spares config s moment (serves_all items {at} reads waits) l = all_spare items at l reads
  serving_spares config s moment (gives_up items at reads some sends) l = all_spare items at l reads
  serving_spares config s moment (step_fails [] item at reads fails) l = (tt, first_spares item [] at reads)
  serving_spares config s moment (step_fails (x ∷ items) item at reads fails) l = absurd (omega (arith, l))

-- no file is taken whose content is being sent
nothing_in_way : (claim : Claim) → is_in_the_way claim Nothing ≡ false
nothing_in_way (Takes files) = refl
nothing_in_way (ReadsFile n f) = refl
nothing_in_way Neither = refl

one_in_way : (c : Connection) (b : Behind) (claim : Claim) (t : Bool) → is_in_the_way claim c.behind ≡ false → is_in_the_way claim b ≡ false
    → is_in_the_way claim (if t then c.behind else b) ≡ false
one_in_way c b claim true e f = e
one_in_way c b claim false e f = f

none_of : (cs : List Connection) (claim : Claim) (m : ℕ) → has_to_wait cs claim ≡ false → is_in_the_way claim (behind_at cs m) ≡ false
none_of [] claim m e = nothing_in_way claim
none_of (c ∷ cs) claim m e =
    let p = or_parts (is_in_the_way claim c.behind) (has_to_wait cs claim) e in
    one_in_way c (behind_at cs m) claim (c.number == m) p.0 (none_of cs claim m p.1)

-- a request of this head has to wait
abbrev waits_for : List Connection → HeadParts → Bool
waits_for cs head = has_to_wait cs (claim_of head)

item_spares : (cs : List Connection) (limit : ℕ) (at : Place) (m : ℕ) → IsNoNext (waits_for cs) limit at → (item : Item) (next : Place) → FirstAt limit at item next
    → Spares (behind_at cs m) item
item_spares cs limit at m none (Request message) next f = none_of cs (claim_of message.head) m (none message next f)
item_spares cs limit at m none (Fault r head_only) next f = tt
item_spares cs limit at m none Continue next f = tt

arrival_spares : (cs : List Connection) (config : Config) (part rest : List ℕ) (moment m : ℕ) {line after : Line} {s left : State} {sent : List ℕ} {answer : Arrived}
    (a : Arrives config part moment line s sent left after answer) (o : Option Reading) → IsHeldAs config.max_upload line (part ++ rest) o
    → ((reading : Reading) → o ≡ Some reading → IsNoNext (waits_for cs) reading.limit reading.place) → items_answered a ≤ 1 → ArrivalSpares (behind_at cs m) a
arrival_spares cs config part rest moment m (at_live {stream} v) None kept none l = absurd kept.0
arrival_spares cs config part rest moment m (at_live {stream} v) (Some reading) kept none l =
    let head_only = kept.0 in
    let place : reading.place ≡ place_with head_only.place (part ++ rest) = ap (λ (r : Reading). r.place) kept.2 in
    let limit : reading.limit ≡ config.max_upload = ap (λ (r : Reading). r.limit) kept.2 ∙ kept.1.same_limit in
    let none_here : IsNoNext (waits_for cs) config.max_upload (place_with head_only.place (part ++ rest)) =
    subst (λ (p : Place). IsNoNext (waits_for cs) config.max_upload p) place (subst (λ (k : ℕ). IsNoNext (waits_for cs) k reading.place) limit (none reading refl)) in
    serving_spares config.max_upload stream part rest head_only.place kept.1.items kept.1.spells (behind_at cs m)
    (item_spares cs config.max_upload (place_with head_only.place (part ++ rest)) m none_here) config _ moment v l
arrival_spares cs config part rest moment m at_shut_line o kept none l = tt

owed_each : (s : State) (t : Bool) (b : Behind) (xs ys : List ℕ) → (t ≡ true → IsOwed s b xs) → (t ≡ false → IsOwed s b ys) → IsOwed s b (if t then xs else ys)
owed_each s true b xs ys h k = h refl
owed_each s false b xs ys h k = k refl

-- what others are owed is owed still
pub replies_keep : {A : Type 0} (condition : A → Condition) (old new : Hub A) → RepliesKeep condition old new
replies_keep condition old new n moment sent failures failures_after answer w held owed more at a l spares others owes honest clean =
    let represents = a.represents clean in
    let sound : IsSound w.state = (store_of condition old).sound_if_kept w.state at.at.state in
    let cs = old.connections.items in
    record {
      at = represents;
      owes = λ m. owed_each a.left (m == n) (behind_at new.connections.items m) more (owed m)
          (λ e. subst (λ (k : ℕ). IsOwed a.left (behind_at new.connections.items k) more) (sym (eqb-true m n e)) (owes honest a.left represents.state))
          (λ e.
          let other : m ≢ n = grind (arith, nat_tests, e) in
          subst (λ (b : Behind). IsOwed a.left b (owed m)) (sym (others m other))
          (owed_arrived old.config a.part moment a.arrives (behind_at cs m) (owed m) l
          (arrival_spares cs old.config a.part a.rest moment m a.arrives (intake_of cs n)
          (subst (λ (bytes : List ℕ). IsHeldAs old.config.max_upload (w.line n) bytes (intake_of cs n)) a.whole (at.at.kept n)) spares l)
          sound (at.owes m)));
    }

-- ---- runs

pub replies_add : {A : Type 0} (condition : A → Condition) (old new : Hub A) → RepliesAdd condition old new
replies_add condition old new n moment sent failures failures_after answer first records held owed more h a config l spares others owes honest clean = record {
  world = record { state = a.left; line = with_line n a.line h.world.line };
  run = subst (λ (x : Config). Run x first (records ++ record { event = Arrive n a.part moment; sent = sent } ∷ []) (record { state = a.left; line = with_line n a.line h.world.line })) (sym config)
      (goes_on h.run (arrives a.arrives));
  at = replies_keep condition old new n moment sent failures failures_after answer h.world held owed more h.at a l spares others owes honest clean;
}

pub sending_represents : {A : Type 0} (condition : A → Condition) (old new : Hub A) → SendingRepresents condition old new
sending_represents condition old new taken takes failures failures_after n answer first records held owed sending h config honest clean =
    let x = sending.sends honest h.world held owed h.at in (
      x.0,
      x.1,
      record {
        world = h.world;
        run = subst (λ (c : Config). Run c first records h.world) (sym config) h.run;
        at = x.3 clean;
      },
    )
