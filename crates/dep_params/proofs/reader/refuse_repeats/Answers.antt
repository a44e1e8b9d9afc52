use Rattle.std.proofs.Common.{◌≡◌, ◌<◌, ◌+◌, ◌∙◌, ℕ, suc, List, [], ◌∷◌, ◌++◌, Bool, true, false, not, map, take, drop, length, get_or, bytes_eq, sym, ap, refl, subst, drop-cons}
use Rattle.std.proofs.lemmas.List.{take_more, map-append, take-append-drop}
use Rattle.std.specs.List.{IsDistinct, list_any}
use Rattle.dep_params.specs.declared.disposition.Parameter.{Parameter}
use Rattle.dep_params.proofs.Repeats.{distinct-nil, distinct-more, not_distinct, held-more}
use Rattle.dep_params.proofs.reader.refuse_repeats.Goals as goal

abbrev name : Parameter → List ℕ
name p = p.name.items

-- the names up to this one, and with those behind it
names_more : (ps : List Parameter) (i : ℕ) (p : Parameter) (x : List ℕ) → i < length ps → p ≡ get_or ps i p → x ≡ name p
    → map name (take (i + 1) ps) ≡ map name (take i ps) ++ x ∷ []
names_more ps i p x h is same =
    let here : name (get_or ps i p) ≡ x = ap name (sym is) ∙ sym same in
    ap (λ (l : List Parameter). map name l) (take_more ps i p h) ∙ map-append name (take i ps) (get_or ps i p ∷ []) ∙ ap (λ (n : List ℕ). map name (take i ps) ++ n ∷ []) here

names_split : (ps : List Parameter) (i : ℕ) (p : Parameter) (x : List ℕ) → i < length ps → p ≡ get_or ps i p → x ≡ name p
    → map name ps ≡ map name (take i ps) ++ x ∷ map name (drop (suc i) ps)
names_split ps i p x h is same =
    let here : name (get_or ps i p) ≡ x = ap name (sym is) ∙ sym same in
    ap (λ (l : List Parameter). map name l) (sym (take-append-drop i ps) ∙ ap (λ (l : List Parameter). take i ps ++ l) (drop-cons ps i p h))
    ∙ map-append name (take i ps) (get_or ps i p ∷ drop (suc i) ps) ∙ ap (λ (n : List ℕ). map name (take i ps) ++ n ∷ map name (drop (suc i) ps)) here

not_false : (b : Bool) → false ≡ not b → b ≡ true
not_false true h = refl
not_false false h = cc h

not_true : (b : Bool) → true ≡ not b → b ≡ false
not_true true h = cc h
not_true false h = refl

pub loop-parameter-init : goal.loop-parameter-init
loop-parameter-init c = record { held = λ k. let e = c.new-names.ensures.empty in rw e refl; distinct = distinct-nil }

pub returns-then-not-branch : goal.returns-then-not-branch
returns-then-not-branch c = λ is.
    let ps = c.args.parameters.now in
    let i = c.loop-parameter.parameter-index in
    let x = c.deref.result.now in
    let split = names_split ps i c.parameter-item.result x c.loop-parameter-test.true c.parameter-item.is c.deref.ensures.value in
    let held = not_false _ (sym c.if-not-branch.true ∙ c.in_ok-insert.ensures.added) in
    absurd (not_distinct (map name (take i ps)) x (map name (drop (suc i) ps)) (sym (c.loop-parameter.invariant.held c.deref.result) ∙ held) (subst (λ (l : List (List ℕ)). IsDistinct bytes_eq l) split is))

pub loop-parameter-preserved : goal.loop-parameter-preserved
loop-parameter-preserved c =
    let ps = c.args.parameters.now in
    let i = c.loop-parameter.parameter-index in
    let x = c.deref.result.now in
    let more = names_more ps i c.parameter-item.result x c.loop-parameter-test.true c.parameter-item.is c.deref.ensures.value in
    let other = not_true _ (sym c.if-not-branch.false ∙ c.in_ok-insert.ensures.added) in
    record {
      held = λ k. held-more (map name (take i ps)) x k.now _ _ (c.in_ok-insert.ensures.updates.0 k) (c.loop-parameter.invariant.held k)
          ∙ ap (λ (l : List (List ℕ)). list_any (λ n. bytes_eq k.now n) l) (sym more);
      distinct = subst (λ (l : List (List ℕ)). IsDistinct bytes_eq l) (sym more)
          (distinct-more (map name (take i ps)) x c.loop-parameter.invariant.distinct (sym (c.loop-parameter.invariant.held c.deref.result) ∙ other));
    }
