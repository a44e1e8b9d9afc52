use Rattle.std.proofs.Common.{◌≡◌, ◌∙◌, ◌++◌, ◌∷◌, List, [], ℕ, sym, ap, rules, refl, Bool, true, false, not, nat_eq, codes, Ok, None}
use Rattle.std.specs.Cmp.Lexicographic.{pointwise}
use Rattle.std.proofs.lemmas.List.{same_from_push}
use Rattle.url.specs.Parser.{parse_url}
use Rattle.url.specs.Parts.{Parts, serialize}
use Rattle.dep_types.specs.Base.{IsBase}
use Rattle.dep_types.proofs.base.check_base.Goals as goal
use Rattle.dep_types.proofs.base.check_base.Goals.{then-ne-via-then-ne, then-ne-via-else-ne+then-last-ne47, then-ne-via-else-ne+else-last-ne47+then-ne-2}

-- a base is the text of its URL without the last byte, which is a slash
front_is : (text front : List ℕ) (last : ℕ) (url : Parts) → IsBase text → parse_url None text ≡ Ok url → serialize url ≡ front ++ last ∷ [] → (front ≡ text) × (last ≡ 47)
front_is text front last url h reads spelled =
    let both = sym h.reads ∙ reads in
    let same : h.url ≡ url = cc both in
    same_from_push front text last 47 (sym spelled ∙ ap serialize (sym same) ∙ h.spelled)

scheme_is : (text : List ℕ) (url : Parts) → IsBase text → parse_url None text ≡ Ok url → url.scheme ≡ codes "http"
scheme_is text url h reads =
    let both = sym h.reads ∙ reads in
    let same : h.url ≡ url = cc both in
    ap (λ (u : Parts). u.scheme) (sym same) ∙ h.scheme

-- what a test for other bytes tells
other_bytes : (a b : List ℕ) (apart : Bool) → apart ≡ not (pointwise nat_eq a b) → apart ≡ true → a ≡ b → ⊥
other_bytes a b apart test reported = search rules

same_bytes : (a b : List ℕ) (apart : Bool) → apart ≡ not (pointwise nat_eq a b) → apart ≡ false → a ≡ b
same_bytes a b apart test reported = search rules

spelled_so : (text front serialized : List ℕ) (last : ℕ) → serialized ≡ front ++ last ∷ [] → last ≡ 47 → front ≡ text → serialized ≡ text ++ 47 ∷ []
spelled_so text front serialized last spelled slash same = spelled ∙ rw (slash, same) refl

pub returns-else-ne-2-clause-kept : goal.returns-else-ne-2-clause-kept
returns-else-ne-2-clause-kept c =
    let scheme = same_bytes c.scheme.result.now (codes "http") c.ne.result c.ne.ensures c.if-ne.false in
    let front = same_bytes c.in-Some.front.now c.as_bytes-else-last-ne47.result.now c.ne-else-last-ne47.result c.ne-else-last-ne47.ensures c.if-ne-2.false in
    record {
      url = c.in-Ok.url;
      reads = c.in-Ok.ensures;
      scheme = sym c.scheme.ensures.value ∙ scheme;
      spelled = spelled_so c.args.base.now c.in-Some.front.now (serialize c.in-Ok.url) c.in-Some.last.now
          (sym c.as_str.ensures.value ∙ sym c.as_bytes.ensures.value ∙ c.in-Some.ensures.cases.0)
          c.if-last-ne47.false (front ∙ c.as_bytes-else-last-ne47.ensures.value);
    }

pub returns-then-ne-clause-refused : goal.returns-then-ne-clause-refused
returns-then-ne-clause-refused c = λ _ base.
    let spelled = sym c.as_str.ensures.value ∙ sym c.as_bytes.ensures.value ∙ c.in-Some.ensures.cases.0 in
    let front = front_is c.args.base.now c.in-Some.front.now c.in-Some.last.now c.in-Ok.url base c.in-Ok.ensures spelled in
    elim c.then-ne.branch [
      | then-ne-via-then-ne w ↦
          other_bytes c.scheme.result.now (codes "http") c.ne.result c.ne.ensures w.if-ne.true
          (c.scheme.ensures.value ∙ scheme_is c.args.base.now c.in-Ok.url base c.in-Ok.ensures)
      | then-ne-via-else-ne+then-last-ne47 w ↦ w.if-last-ne47.true front.1
      | then-ne-via-else-ne+else-last-ne47+then-ne-2 w ↦
          other_bytes c.in-Some.front.now w.as_bytes-else-last-ne47.result.now w.ne-else-last-ne47.result w.ne-else-last-ne47.ensures w.if-ne-2.true
          (front.0 ∙ sym w.as_bytes-else-last-ne47.ensures.value)
    ]
