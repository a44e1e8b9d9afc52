use Rattle.std.proofs.Common.{◌≡◌, ◌∙◌, ◌++◌, ◌∷◌, ℕ, List, [], sym, ap, map, append_assoc, append-nil, Bor}
use Rattle.std.proofs.lemmas.List.{map-append}
use Rattle.dep_octets.specs.Octets.{members}
use Rattle.dep_fixity.specs.Fixity.{digest_under, spelled_under, one_digest}
use Rattle.dep_fixity.proofs.Promises.{digest_under-bad, one_digest-more, spelled_under-next, spelled_under-other, value_under-same, value_under-other, named-more}
use Rattle.dep_fixity.proofs.field.read_promise.Goals as goal

pub returns-in_default-promised_again : goal.returns-in_default-promised_again
returns-in_default-promised_again g c =
    let done = map (λ (m : Bor (List ℕ)). m.now) c.loop-member.yielded in
    let member = c.in-Some.member.now in
    let all : members c.args.text.now ≡ done ++ member ∷ c.next.new.self =
    c.loop-member.invariant.left ∙ ap (λ r. done ++ r) c.in-Some.ensures.steps in
    let value = value_under-same c.args.algorithm.now member _ c.in-Some-cut_at_equals.ensures (sym c.is_same_name.ensures ∙ c.if-is_same_name.true) in
    let bad = sym c.promised_again.ensures ∙ c.in_default-promised_again.is in
    sym (ap (digest_under g.row.N c.args.algorithm.now) all ∙ digest_under-bad _ _ done member c.next.new.self _ _ c.loop-member.invariant.promised value bad)

pub loop-member-preserved-then-is_same_name : goal.loop-member-preserved-then-is_same_name
loop-member-preserved-then-is_same_name g c =
    let yielded = c.loop-member.yielded in
    let done = map (λ (m : Bor (List ℕ)). m.now) yielded in
    let member = c.in-Some.member.now in
    let more : map (λ (m : Bor (List ℕ)). m.now) (yielded ++ c.in-Some.member ∷ []) ≡ done ++ member ∷ [] = map-append _ yielded _ in
    let value = value_under-same c.args.algorithm.now member _ c.in-Some-cut_at_equals.ensures (sym c.is_same_name.ensures ∙ c.if-is_same_name.true) in
    let kept = sym c.promised_again.ensures ∙ c.in-Some-promised_again.is in
    record {
      left = rw (more, append_assoc) (c.loop-member.invariant.left ∙ ap (λ r. done ++ r) c.in-Some.ensures.steps);
      named = rw more (named-more done member _ c.loop-member.invariant.named c.in-Some-cut_at_equals.ensures);
      promised = rw more (ap one_digest (spelled_under-next g.row.N c.args.algorithm.now done member [] _ value)
          ∙ one_digest-more (spelled_under g.row.N c.args.algorithm.now done) _ _ _ c.loop-member.invariant.promised kept);
    }

pub loop-member-preserved : goal.loop-member-preserved
loop-member-preserved g c =
    let yielded = c.loop-member.yielded in
    let done = map (λ (m : Bor (List ℕ)). m.now) yielded in
    let member = c.in-Some.member.now in
    let more : map (λ (m : Bor (List ℕ)). m.now) (yielded ++ c.in-Some.member ∷ []) ≡ done ++ member ∷ [] = map-append _ yielded _ in
    let other = value_under-other c.args.algorithm.now member _ c.in-Some-cut_at_equals.ensures (sym c.is_same_name.ensures ∙ c.if-is_same_name.false) in
    record {
      left = rw (more, append_assoc) (c.loop-member.invariant.left ∙ ap (λ r. done ++ r) c.in-Some.ensures.steps);
      named = rw more (named-more done member _ c.loop-member.invariant.named c.in-Some-cut_at_equals.ensures);
      promised = rw more (ap one_digest (spelled_under-other g.row.N c.args.algorithm.now done member [] other ∙ append-nil _)
          ∙ c.loop-member.invariant.promised);
    }
