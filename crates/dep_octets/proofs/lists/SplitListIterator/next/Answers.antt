use Rattle.std.proofs.Common.{◌≡◌, ◌∙◌, ◌∷◌, ℕ, List, [], sym, ap, arith, length, rules, Bool, true, false, ◌==◌}
use Rattle.std.proofs.lemmas.Bool.Decides.{nat_tests}
use Rattle.std.specs.Option.{option_copied}
use Rattle.dep_octets.specs.Octets.{members_of, parts_left, trimmed}
use Rattle.dep_octets.proofs.Members.{members_of-empty, members_of-next, members_of-nil}
use Rattle.dep_octets.proofs.lists.SplitListIterator.next.Goals as goal

not_empty : (n : ℕ) (b : Bool) → b ≡ (n == 0) → b ≡ false → n ≡ 0 → ⊥
not_empty n b e h z = grind (arith, nat_tests)

is_nil : (n : ℕ) (b : Bool) → b ≡ (n == 0) → b ≡ true → n ≡ 0
is_nil n b e h = grind (arith, nat_tests)

-- what was left at the call is what is left at this turn, as its first part and the others
turn : (now : List (List ℕ)) (start here : List (List ℕ)) (part : List ℕ) (more : List (List ℕ))
    → members_of start ≡ now → members_of start ≡ members_of here → here ≡ part ∷ more → now ≡ members_of (part ∷ more)
turn now start here part more view invariant cut = sym view ∙ invariant ∙ ap members_of cut

pub returns-then-not-is_empty-clause-steps : goal.returns-then-not-is_empty-clause-steps
returns-then-not-is_empty-clause-steps c =
    let left = parts_left (option_copied c.loop-self.self-inside.rest) in
    let here : left ≡ c.first_part.result.0.now ∷ parts_left (option_copied c.first_part.result.1) = rw c.in-Some.is c.first_part.ensures.cut in
    let some : length (trimmed c.first_part.result.0.now) ≡ 0 → ⊥ = rw (← c.trim_ows-member.ensures) (not_empty _ _ c.is_empty.ensures c.if-not-is_empty.true) in
    turn _ _ _ _ _ c.self.view_is c.loop-self.invariant here ∙ members_of-next _ _ some
    ∙ ap (λ m. m ∷ members_of (parts_left (option_copied c.first_part.result.1))) (sym c.trim_ows-member.ensures)

pub loop-self-preserved : goal.loop-self-preserved
loop-self-preserved c =
    let left = parts_left (option_copied c.loop-self.self-inside.rest) in
    let here : left ≡ c.first_part.result.0.now ∷ parts_left (option_copied c.first_part.result.1) = rw c.in-Some.is c.first_part.ensures.cut in
    let none : length (trimmed c.first_part.result.0.now) ≡ 0 = rw (← c.trim_ows-member.ensures) (is_nil _ _ c.is_empty.ensures c.if-not-is_empty.false) in
    c.loop-self.invariant ∙ ap members_of here ∙ members_of-empty _ _ none

pub returns-clause-steps : goal.returns-clause-steps
returns-clause-steps c =
    let none : members_of (parts_left (option_copied c.loop-self.self-inside.rest)) ≡ [] = rw c.in_default.is members_of-nil in
    (sym c.self.view_is ∙ c.loop-self.invariant ∙ none, none)

pub returns-then-not-is_empty-clause-goes : goal.returns-then-not-is_empty-clause-goes
returns-then-not-is_empty-clause-goes c =
    let steps = returns-then-not-is_empty-clause-steps c in
    search (rules, steps)
