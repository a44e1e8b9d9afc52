use Rattle.std.proofs.Common.{◌≡◌, ◌∙◌, ◌+◌, ◌<◌, ◌++◌, ℕ, List, [], ◌∷◌, length, take, get_or, codes, sym, ap, append_assoc, rules}
use Rattle.std.proofs.lemmas.List.{flat_map_more, take_all, take_more}
use Rattle.dep_bag.specs.Bag.{list_text}
use Rattle.dep_answers.proofs.bags.list_text.Goals as goal

one_line_more : (paths : List (List ℕ)) (i : ℕ) (path text begun new : List ℕ) → i < length paths → path ≡ get_or paths i path → text ≡ list_text (take i paths)
    → begun ≡ text ++ path → new ≡ begun ++ codes "\n" → new ≡ list_text (take (i + 1) paths)
one_line_more paths i path text begun new within is so_far one two =
    two ∙ (ap (λ (t : List ℕ). t ++ codes "\n") (one ∙ ap (λ (t : List ℕ). t ++ path) so_far)
    ∙ (append_assoc (list_text (take i paths)) path (codes "\n")
    ∙ (flat_map_more (λ (p : List ℕ). p ++ codes "\n") [] (take i paths) path
    ∙ ap list_text (sym (take_more paths i path within ∙ ap (λ (p : List ℕ). take i paths ++ p ∷ []) (sym is))))))

pub loop-path-init : goal.loop-path-init
loop-path-init c = c.new-text.ensures.items

pub loop-path-preserved : goal.loop-path-preserved
loop-path-preserved c =
    one_line_more c.args.paths.now c.loop-path.path-index c.path-item.result c.loop-path.text.items c.extend_from_slice.new.self.items _ c.loop-path-test.true c.path-item.is c.loop-path.invariant
    (c.in_ok-extend_from_slice.ensures.items ∙ ap (λ (t : List ℕ). c.loop-path.text.items ++ t) (c.as_bytes.ensures.value ∙ c.as_str.ensures))
    c.in_ok-extend_from_slice-2.ensures.items

pub returns : goal.returns
returns c = c.loop-path.invariant ∙ ap list_text (take_all c.loop-path.path-index c.args.paths.now c.loop-path-test.false)

pub returns-in_err-extend_from_slice : goal.returns-in_err-extend_from_slice
returns-in_err-extend_from_slice c = search rules

pub returns-in_err-extend_from_slice-2 : goal.returns-in_err-extend_from_slice-2
returns-in_err-extend_from_slice-2 c = search rules
