-- From what a decision makes of the maps to what a request makes of the state.
use Rattle.std.proofs.Common.{◌≡◌, ◌∙◌, ℕ, ◌+◌, ◌&&◌, true, false, List, Some, Option, IsTrue, Result, OnOk, nat_eq, sym, ap, subst, arith}
use Rattle.std.proofs.lemmas.Bool.Decides.{nat_tests}
use Rattle.sqlite.specs.State as db
use Rattle.std.specs.FinMap as finmap
use Rattle.std.specs.Option.{option_map_or}
use Rattle.dep_types.specs.State.{State, Object, Upload}
use Rattle.dep_types.specs.Maps.{Numbered}
use Rattle.dep_types.specs.Numbers.{counters_after, has_room, numbers, room_for}
use Rattle.dep_types.specs.declared.config.Config.{Config}
use Rattle.dep_types.specs.declared.counters.Counters.{Counters}
use Rattle.dep_types.specs.declared.store_fault.StoreFault.{StoreFault}
use Rattle.dep_tables.specs.Tables.{Tables}
use Rattle.dep_row_maps.specs.TablesAre.{TablesAre}
use Rattle.dep_row_maps.specs.Clauses.{SeesState}
use Rattle.dep_params.proofs.Runs.{and_both}
use Rattle.dep_decisions.specs.Decisions.{decision, numbers_for}
use Rattle.dep_decisions.specs.Effects.{at, effect, effect_of}
use Rattle.dep_decisions.specs.declared.operation.Operation.{Operation}
use Rattle.dep_decisions.specs.declared.decision.Decision.{Decision}
use Rattle.dep_decisions.specs.declared.decision.Decision.TheVariants.{Show}
use Rattle.dep_operations.specs.Views.{true_view}
use Rattle.dep_operations.specs.declared.view.View.{View}
use Rattle.dep_requests.specs.Reported.{IsAccepted, ReportsFor, ReportsNumbers}
use Rattle.dep_requests.specs.Changed.{with_maps}
use Rattle.dep_requests.specs.Clauses.{CarriesOut}
use Rattle.dep_requests.specs.declared.change.Change.{Change}
use Rattle.dep_requests.proofs.Accepted.{reported_for}

-- room for all numbers is room for those of files
pub room_of_files : (next : Counters) (d : Decision) (count : ℕ) → (numbers_for d).file ≡ count → IsTrue (room_for next (numbers_for d)) → IsTrue (has_room next.file count)
unfolding room_for
room_of_files next d count is room =
    let taken = numbers_for d in
    let three = and_both (has_room next.object taken.object && has_room next.file taken.file && has_room next.upload taken.upload) (has_room next.change taken.change) room in
    let two = and_both (has_room next.object taken.object && has_room next.file taken.file) (has_room next.upload taken.upload) three.0 in
    let one = and_both (has_room next.object taken.object) (has_room next.file taken.file) two.0 in
    subst (λ (n : ℕ). IsTrue (has_room next.file n)) is one.1

-- an accepted request tells all that its decision relies on
module _ (s : State) (view : View) (content : List ℕ) (d : Decision) (it : IsAccepted s view content d) where
  pub numbers_reported : ReportsNumbers view s
  numbers_reported = (ap (λ (v : View). v.clock) it.seen, ap (λ (v : View). v.next) it.seen)

  pub reported : ReportsFor view s content d
  reported =
      let ruling = it.ruling in
      subst (λ (v : View). ReportsFor v s content d) (sym it.seen)
      (subst (λ (bytes : List ℕ). ReportsFor (true_view it.config s it.op) s bytes d) (sym it.sent)
      (subst (ReportsFor (true_view it.config s it.op) s it.op.content) (sym ruling.1) (reported_for it.config s it.op it.sound ruling.0)))

-- with the counters the maps are the state after it
pub carried : (s : State) (content : List ℕ) (d : Decision) (t : Tables) (clock : ℕ) (next : Counters) → clock ≡ s.clock → next ≡ counters_after s.next (numbers_for d)
    → TablesAre t (record (with_maps s content d) { clock = clock; next = next }) → TablesAre t (effect_of s content d)
carried s content d t clock next at_clock at_next are =
    subst (λ (n : Counters). TablesAre t (record (with_maps s content d) { clock = s.clock; next = n })) at_next
    (subst (λ (now : ℕ). TablesAre t (record (with_maps s content d) { clock = now; next = next })) at_clock are)

-- what the decision makes of the state is what the request does
pub request_made : (config : Config) (s : State) (op : Operation) (d : Decision) → d ≡ decision config op → effect_of s op.content d ≡ effect config s op
unfolding effect
request_made config s op d asked = ap (effect_of s op.content) asked

-- counters that are equal number by number are the same
pub same_counters : (a b : Counters) → (nat_eq a.object b.object && (nat_eq a.file b.file && (nat_eq a.upload b.upload && nat_eq a.change b.change))) ≡ true → a ≡ b
same_counters a b e =
    let one = and_both (nat_eq a.object b.object) _ e in
    let two = and_both (nat_eq a.file b.file) _ one.1 in
    let three = and_both (nat_eq a.upload b.upload) (nat_eq a.change b.change) two.1 in
    let object = same a.object b.object one.0 in
    let file = same a.file b.file two.0 in
    let upload = same a.upload b.upload three.0 in
    let change = same a.change b.change three.1 in
    λ i. record { object = object i; file = file i; upload = upload i; change = change i }
  where
    same : (x y : ℕ) → nat_eq x y ≡ true → x ≡ y
    same x y e = grind (arith, nat_tests)

-- no number is taken
pub none_taken : (next was taken : Counters) → next ≡ counters_after was taken → taken ≡ numbers 0 0 0 0 → next ≡ was
none_taken next was taken e none =
    let object = as_many was.object in
    let file = as_many was.file in
    let upload = as_many was.upload in
    let change = as_many was.change in
    let still : counters_after was (numbers 0 0 0 0) ≡ was = λ i. record { object = object i; file = file i; upload = upload i; change = change i } in
    e ∙ ap (counters_after was) none ∙ still
  where
    as_many : (n : ℕ) → n + 0 ≡ n
    as_many n = omega arith

pub false_true : false ≡ true → ⊥
false_true e = cc e

pub equal_counters : (a b : Counters) → a ≡ b → (nat_eq a.object b.object && (nat_eq a.file b.file && (nat_eq a.upload b.upload && nat_eq a.change b.change))) ≡ true
equal_counters a b same =
    subst (λ (x : Counters). (nat_eq a.object x.object && (nat_eq a.file x.file && (nat_eq a.upload x.upload && nat_eq a.change x.change))) ≡ true) same
    (ap (λ x. x && (nat_eq a.file a.file && (nat_eq a.upload a.upload && nat_eq a.change a.change))) (itself a.object)
    ∙ ap (λ x. x && (nat_eq a.upload a.upload && nat_eq a.change a.change)) (itself a.file)
    ∙ ap (λ x. x && nat_eq a.change a.change) (itself a.upload) ∙ itself a.change)
  where
    itself : (n : ℕ) → nat_eq n n ≡ true
    itself n = grind (arith, nat_tests)

-- what a call promises for a decision of this form
module _ {T L : Type 0} {lenders : T → L} {state : T → db.State} {old new : T} {r : Result (Unit {0}) StoreFault} (change : Change) {decision d : Decision} where
  pub carried_as : decision ≡ d → CarriesOut lenders state old new r change d → CarriesOut lenders state old new r change decision
  carried_as is made = subst (CarriesOut lenders state old new r change) (sym is) made

abbrev pub IsShow : Decision → Type 0
IsShow Show = Unit {0}
IsShow _ = ⊥

-- a decision of another form than Show is none
pub as_shown : {decision d : Decision} → decision ≡ d → decision ≡ Show → IsShow d
as_shown is show = subst IsShow (sym show ∙ is) tt

-- what becomes of an object that is there
pub at_object : (s : State) (uploads : Numbered Upload) (now : db.State) (r : Result (Unit {0}) StoreFault) (n : ℕ) (o : Object) (f : Object → Object) → finmap.get s.objects n ≡ Some o
    → OnOk r (SeesState now (record s { objects = finmap.insert s.objects n (f o); uploads = uploads }))
    → OnOk r (SeesState now (record s { objects = at s.objects n f; uploads = uploads }))
at_object s uploads now r n o f there made =
    subst (λ (found : Option Object). OnOk r (SeesState now (record s { objects = option_map_or (λ x. finmap.insert s.objects n (f x)) found s.objects; uploads = uploads }))) (sym there) made
