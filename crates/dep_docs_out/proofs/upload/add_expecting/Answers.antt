use Rattle.std.proofs.Common.{◌≡◌, ◌∙◌, ◌+◌, ℕ, List, [], ◌∷◌, ◌++◌, map, ap, sym, subst, arith}
use Rattle.std.proofs.lemmas.List.{map-append, nil_from_length}
use Rattle.serde_json.specs.Data.{Data}
use Rattle.dep_docs_out.specs.Json.{Draft, AddsItems, whole_number}
use Rattle.dep_docs_out.specs.Documents.{expecting}
use Rattle.dep_docs_out.proofs.TokenLemmas.{list_member, more_items, no_items_more}
use Rattle.dep_docs_out.proofs.Waiting.{IsLeft, IsNotFirst, all_left, received_next, expecting_same, expected_next, expecting_more}
use Rattle.dep_docs_out.proofs.upload.add_expecting.Goals as goal
use Rattle.dep_docs_out.proofs.upload.add_expecting.Goals.{in-Some, in_default, in_default-via-in-Some+else-first-number, in_default-via-in_default}

pub loop-before-init : goal.loop-before-init
loop-before-init c = record {
  left = all_left c.args.received.now c.requires;
  written = no_items_more _;
}

written_more : {old between new : Draft} (n : ℕ) (received : List ℕ) → expecting (n + 1) received ≡ expecting n received ++ ((n + 1) ∷ [])
    → AddsItems old between (map (λ k. whole_number k) (expecting n received)) → AddsItems between new (whole_number (n + 1) ∷ []) → AddsItems old new (map (λ k. whole_number k) (expecting (n + 1) received))
written_more {old} {between} {new} n received is g h =
    subst (λ (ds : List Data). AddsItems old new ds) (sym (ap (map (λ k. whole_number k)) is ∙ map-append (λ k. whole_number k) (expecting n received) ((n + 1) ∷ []))) (more_items g h)

pub loop-before-preserved : goal.loop-before-preserved
loop-before-preserved c =
    let n = c.loop-before.before in
    let received = c.args.received.now in
    let left = c.loop-before.left.now in
    let held = c.loop-before.invariant in
    elim c.match-split_first.branch [
      | in-Some w ↦
          let here : IsLeft n received (w.in-Some.first.now ∷ w.in-Some.rest.now) = rw w.in-Some.ensures.cases.0 at held.left in
          rw (w.left-is, w.document-is) (record {
            left = received_next _ _ w.if-first-number.true here;
            written = subst (λ ks. AddsItems c.token-2.new.self c.loop-before.document (map (λ k. whole_number k) ks)) (sym (expecting_same _ _ w.if-first-number.true here)) held.written;
          })
      | in_default w ↦
          let other : IsNotFirst (n + 1) left =
          elim w.in_default.branch [
            | in_default-via-in-Some+else-first-number v ↦ rw v.in-Some.ensures.cases.0 v.if-first-number.false
            | in_default-via-in_default v ↦ rw (nil_from_length left v.in_default.ensures.cases) tt
          ] in
          rw (w.left-is, w.document-is) (record {
            left = expected_next other held.left;
            written = written_more n received (expecting_more other held.left) held.written w.whole_number_item.ensures;
          })
    ]

pub returns : goal.returns
returns c =
    let all : c.loop-before.before ≡ c.args.count = omega arith in
    let numbers = subst (λ n. AddsItems c.token-2.new.self c.loop-before.document (map (λ k. whole_number k) (expecting n c.args.received.now))) all c.loop-before.invariant.written in
    list_member c.token.ensures c.token-2.ensures numbers c.token-3.ensures
