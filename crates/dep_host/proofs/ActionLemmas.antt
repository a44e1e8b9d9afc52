-- What is counted of one stretch of actions, and of another behind it.
use Rattle.std.proofs.Common.{◌≡◌, ◌≤◌, ◌+◌, ◌==◌, ℕ, Bool, true, false, if◌then◌else◌, List, [], ◌∷◌, ◌++◌, Option, refl, sym, ap, subst, ◌∙◌, arith}
use Rattle.std.proofs.lemmas.List.{append-nil}
use Rattle.std.proofs.lemmas.Bool.{ne_eqb, eq-eqb}
use Rattle.dep_hub.specs.declared.sent_on.SentOn.{SentOn}
use Rattle.dep_outbox.specs.Wires.{reported}
use Rattle.dep_slot.specs.declared.slot.Time.{Time}
use Rattle.dep_host.specs.Actions.{note_of, closings_of, HostAction, answers_at, pieces_at, sending_at, sendings_at, sendings_in, AreDoneAt}
use Rattle.std.proofs.lemmas.Grind.{flat_map-append}
use Rattle.dep_slot.specs.Notes.{Note, GrowsWhereShown}
use Rattle.dep_host.proofs.HostLemmas.{grows_on}

pub answers_append : (place : ℕ) (xs ys : List HostAction) → answers_at place (xs ++ ys) ≡ answers_at place xs + answers_at place ys
answers_append place [] ys = let none : answers_at place [] ≡ 0 = refl in omega (arith, none)
answers_append place (d ∷ xs) ys = let e = answers_append place xs ys in omega (arith, e)

pub pieces_append : (place : ℕ) (xs ys : List HostAction) → pieces_at place (xs ++ ys) ≡ pieces_at place xs + pieces_at place ys
pieces_append place [] ys = let none : pieces_at place [] ≡ 0 = refl in omega (arith, none)
pieces_append place (d ∷ xs) ys = let e = pieces_append place xs ys in omega (arith, e)

pub sendings_in_append : (xs ys : List HostAction) → sendings_in (xs ++ ys) ≡ sendings_in xs + sendings_in ys
sendings_in_append [] ys = let none : sendings_in [] ≡ 0 = refl in omega (arith, none)
sendings_in_append (d ∷ xs) ys = let e = sendings_in_append xs ys in omega (arith, e)

-- a content was sent on, or none was
pub counted_by : (n : ℕ) (has_sent : Bool) → (has_sent ≡ true → n ≡ 1) → (has_sent ≡ false → n ≡ 0) → n ≡ (if has_sent then 1 else 0)
counted_by n true one none = one refl
counted_by n false one none = none refl

pub sendings_append : (place : ℕ) (xs ys : List HostAction) → sendings_at place (xs ++ ys) ≡ sendings_at place xs ++ sendings_at place ys
sendings_append place xs ys = flat_map-append (λ d. sending_at place d) xs ys

-- no step of a content was sent there in the one stretch, or in the other
pub sendings_after : (place : ℕ) (xs ys : List HostAction) → sendings_at place ys ≡ [] → sendings_at place (xs ++ ys) ≡ sendings_at place xs
sendings_after place xs ys none = sendings_append place xs ys ∙ (ap (λ l. sendings_at place xs ++ l) none ∙ append-nil (sendings_at place xs))

pub sendings_before : (place : ℕ) (xs ys : List HostAction) → sendings_at place xs ≡ [] → sendings_at place (xs ++ ys) ≡ sendings_at place ys
sendings_before place xs ys none = sendings_append place xs ys ∙ ap (λ l. l ++ sendings_at place ys) none

pub in_time_append : (time : Time) (xs ys : List HostAction) → AreDoneAt time xs → AreDoneAt time ys → AreDoneAt time (xs ++ ys)
in_time_append time [] ys h k = k
in_time_append time (d ∷ xs) ys h k = (h.0, in_time_append time xs ys h.1 k)

-- the log was told of the one stretch and then of the other
pub noted_on : (reported so_far reports : Option (List Note)) (xs ys : List HostAction) → GrowsWhereShown reported so_far (closings_of xs) → GrowsWhereShown so_far reports (closings_of ys) → GrowsWhereShown reported reports (closings_of (xs ++ ys))
noted_on reported so_far reports xs ys g h = subst (λ (l : List Note). GrowsWhereShown reported reports l) (sym (flat_map-append note_of xs ys)) (grows_on reported so_far reports (closings_of xs) (closings_of ys) g h)

pub one_at_most : (b : Bool) → (if b then 1 else 0) + 0 ≤ 1
one_at_most true = omega arith
one_at_most false = omega arith

pub one_here : (at : ℕ) → (if at == at then 1 else 0) + 0 ≡ 1
one_here at = ap (λ (b : Bool). (if b then 1 else 0) + 0) (eq-eqb at at refl)

pub one_sent : (at : ℕ) (answer : SentOn) → (if at == at then answer ∷ [] else []) ++ [] ≡ answer ∷ []
one_sent at answer = append-nil (if at == at then answer ∷ [] else []) ∙ ap (λ (b : Bool). if b then answer ∷ [] else []) (eq-eqb at at refl)

pub none_sent : (at place : ℕ) (answer : SentOn) → (place ≡ at → ⊥) → (if at == place then answer ∷ [] else []) ++ [] ≡ []
none_sent at place answer ne = append-nil (if at == place then answer ∷ [] else []) ∙ ap (λ (b : Bool). if b then answer ∷ [] else []) (ne_eqb at place (λ e. ne (sym e)))

pub none_elsewhere : (at place : ℕ) → (place ≡ at → ⊥) → (if at == place then 1 else 0) + 0 ≡ 0
none_elsewhere at place ne = ap (λ (b : Bool). (if b then 1 else 0) + 0) (ne_eqb at place (λ e. ne (sym e)))
