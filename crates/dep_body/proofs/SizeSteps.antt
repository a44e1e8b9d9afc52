-- One byte more of a chunk line, and what follows the line.
use Rattle.std.proofs.Common.{◌≡◌, ℕ, ◌+◌, ◌<◌, ◌==◌, ◌&&◌, Bool, true, false, nat_le, List, [], ◌∷◌, ◌++◌, length, Option, Some, None, if◌then◌else◌, refl, sym, ap, subst, ◌∙◌, arith, append_assoc, append-nil, length-append, inl, inr}
use Rattle.std.proofs.lemmas.Bool.{cases_Bool}
use Rattle.std.proofs.lemmas.Bool.Decides.{nat_tests}
use Rattle.dep_octets.specs.Octets.{capped}
use Rattle.dep_body.specs.Lines.{line_text, line_size}
use Rattle.dep_body.specs.Body.{HasChunks, IsChunkedFault, long_line, bad_line, large_chunk, bad_end, line_limit}
use Rattle.dep_body.specs.Reading.{size_after, size_reading, next_size, SaysSize}
use Rattle.dep_body.specs.Standing.{IsBegunLine, IsInLine, IsAtLineEnd, IsSizedLine, IsBehindData}
use Rattle.dep_body.specs.declared.frame.FrameFault.TheVariants.{Bad, TooLarge}
use Rattle.dep_body.specs.declared.size.SizeLine.{SizeLine}
use Rattle.dep_body.specs.declared.size.SizeReading.{SizeReading}
use Rattle.dep_body.specs.declared.size.SizeReading.TheVariants.{Start}
use Rattle.dep_body.proofs.BegunLines.{begun_none, begun_cr, begun_plain, begun_line, begun_text, begun_length, reading_more}
use Rattle.dep_body.proofs.ChunkLemmas.{chunks_more, chunks_rest, chunks_join}
use Rattle.dep_body.proofs.Readings.{size_said}

-- a test that both hold
pub both_true : (a b : Bool) → (a && b) ≡ true → (a ≡ true) × (b ≡ true)
both_true true true e = (refl, refl)
both_true true false e = cc
both_true false b e = cc

pub not_both : (a : Bool) (n : ℕ) → (a && n == 10) ≡ false → a ≡ true → n ≡ 10 → ⊥
not_both true n e t is = grind (arith, nat_tests)
not_both false n e t is = cc

pub is_ten : (n : ℕ) → (n == 10) ≡ true → n ≡ 10
is_ten n e = grind (arith, nat_tests)

pub is_thirteen : (n : ℕ) → (n == 13) ≡ true → n ≡ 13
is_thirteen n e = grind (arith, nat_tests)

pub both_are : (a b : ℕ) → (a == 13 && b == 10) ≡ false → a ≡ 13 → b ≡ 10 → ⊥
both_are a b e x y = grind (arith, nat_tests)

-- a line without a CR at its end, after one byte more
unfoldable pub next_line : List ℕ → ℕ → List ℕ
next_line bytes b = if b == 13 then bytes else bytes ++ b ∷ []

pub begun_next : (bytes line : List ℕ) (cr : Bool) (b : ℕ) → IsBegunLine bytes line cr → (cr ≡ true → b ≡ 10 → ⊥)
    → IsBegunLine (bytes ++ b ∷ []) (next_line bytes b) (b == 13)
unfolding next_line
begun_next bytes line cr b h other =
    elim (cases_Bool (b == 13)) [
      | inl t ↦
          let is : b ≡ 13 = grind (arith, nat_tests) in
          subst (λ (c : Bool). IsBegunLine (bytes ++ b ∷ []) (if c then bytes else bytes ++ b ∷ []) c) (sym t)
          (subst (λ n. IsBegunLine (bytes ++ n ∷ []) bytes true) (sym is) (begun_cr bytes line cr h))
      | inr f ↦
          subst (λ (c : Bool). IsBegunLine (bytes ++ b ∷ []) (if c then bytes else bytes ++ b ∷ []) c) (sym f)
          (begun_plain bytes line cr b h (λ is. grind (arith, nat_tests)) other)
    ]

pub reading_next : (most : ℕ) (bytes line : List ℕ) (cr : Bool) (b : ℕ) → IsBegunLine bytes line cr
    → next_size most (size_reading most line) cr b ≡ size_reading most (next_line bytes b)
unfolding next_line
reading_next most bytes line cr b h = reading_more (size_after most) Start bytes line cr b h.bytes_are

pub line_goes : (limit : ℕ) (content text : List ℕ) (state next : SizeLine) (b : ℕ) → IsInLine limit content state text
    → (state.after_cr && b == 10) ≡ false → state.length + 1 < line_limit → next.length ≡ state.length + 1 → next.after_cr ≡ (b == 13)
    → next.reading ≡ next_size limit state.reading state.after_cr b → IsInLine limit content next (text ++ b ∷ [])
line_goes limit content text state next b h other short length_is cr_is reading_is =
    let same : length (h.rest ++ b ∷ []) ≡ state.length + 1 = length-append h.rest (b ∷ []) ∙ ap (λ n. n + 1) (sym h.length_is) in
    record {
      rest = h.rest ++ b ∷ [];
      line = next_line h.rest b;
      chunks = chunks_more limit text content h.rest (b ∷ []) h.chunks;
      begun = subst (IsBegunLine (h.rest ++ b ∷ []) (next_line h.rest b)) (sym cr_is) (begun_next h.rest h.line state.after_cr b h.begun (not_both state.after_cr b other));
      length_is = length_is ∙ sym same;
      short = omega (arith, same, short);
      reading_is =
          reading_is ∙ ap (λ r. next_size limit r state.after_cr b) h.reading_is ∙ reading_next limit h.rest h.line state.after_cr b h.begun;
    }

pub line_long : (limit : ℕ) (content text : List ℕ) (state : SizeLine) (b : ℕ) → IsInLine limit content state text
    → (state.after_cr && b == 10) ≡ false → state.length + 1 ≡ line_limit → IsChunkedFault limit (text ++ b ∷ []) Bad content
line_long limit content text state b h other long =
    let same : length (h.rest ++ b ∷ []) ≡ state.length + 1 = length-append h.rest (b ∷ []) ∙ ap (λ n. n + 1) (sym h.length_is) in
    record {
      before = content;
      rest = h.rest ++ b ∷ [];
      held = [];
      chunks = chunks_more limit text content h.rest (b ∷ []) h.chunks;
      unit = long_line (begun_next h.rest h.line state.after_cr b h.begun (not_both state.after_cr b other)).no_end (same ∙ long);
      content_is = sym (append-nil content);
    }

pub line_ended : (limit : ℕ) (content text : List ℕ) (state : SizeLine) → IsInLine limit content state text → state.after_cr ≡ true
    → IsAtLineEnd limit content state.reading (text ++ 10 ∷ [])
line_ended limit content text state h cr =
    let begun = subst (IsBegunLine h.rest h.line) cr h.begun in
    record {
      line = h.line;
      chunks = chunks_rest limit _ content _ _ (begun_text h.rest h.line begun) (chunks_more limit text content h.rest (10 ∷ []) h.chunks);
      ends = begun_line h.rest h.line begun;
      short = omega (arith, begun_length h.rest h.line begun, h.short);
      said = subst (λ r. SaysSize limit r (line_size h.line)) (sym h.reading_is) (size_said limit h.line);
    }

-- a chunk line that says nothing
pub line_says_none : (limit : ℕ) (content text : List ℕ) (reading : SizeReading) → (h : IsAtLineEnd limit content reading text) → line_size h.line ≡ None
    → IsChunkedFault limit text Bad content
line_says_none limit content text reading h none = record {
  before = content;
  rest = line_text h.line;
  held = [];
  chunks = h.chunks;
  unit = bad_line h.line refl h.ends h.short none;
  content_is = sym (append-nil content);
}

pub line_says : (limit : ℕ) (content text : List ℕ) (reading : SizeReading) (value : Option ℕ) → (h : IsAtLineEnd limit content reading text)
    → (n : ℕ) → line_size h.line ≡ Some n → value ≡ capped limit n → IsSizedLine limit content n value text
line_says limit content text reading value h n says value_is = record {
  line = h.line;
  chunks = h.chunks;
  size_line = record { ends = h.ends; short = h.short; says = says };
  value_is = value_is;
}

pub capped_some : (limit size n : ℕ) → Some n ≡ capped limit size → n ≡ size
capped_some limit size n e =
    elim (cases_Bool (nat_le size limit)) [
      | inl t ↦ let is = rw t at e in cc
      | inr f ↦ let is = rw f at e in absurd (let no : Some n ≡ None = is in cc)
    ]

capped_none : (limit size : ℕ) → None ≡ capped limit size → limit < size
capped_none limit size e =
    elim (cases_Bool (nat_le size limit)) [
      | inl t ↦ let is = rw t at e in absurd (let no : None ≡ Some size = is in cc)
      | inr f ↦ grind (arith, nat_tests)
    ]

pub sized_large : (limit : ℕ) (content text : List ℕ) (size : ℕ) (value : Option ℕ) → IsSizedLine limit content size value text
    → limit < length content + size → IsChunkedFault limit text TooLarge content
sized_large limit content text size value h large = record {
  before = content;
  rest = line_text h.line;
  held = [];
  chunks = h.chunks;
  unit = large_chunk h.line size refl h.size_line large;
  content_is = sym (append-nil content);
}

pub sized_none : (limit : ℕ) (content text : List ℕ) (size : ℕ) → IsSizedLine limit content size None text → IsChunkedFault limit text TooLarge content
sized_none limit content text size h = sized_large limit content text size None h (omega (arith, capped_none limit size h.value_is))

two_behind : (limit : ℕ) (content text : List ℕ) (a b : ℕ) → (h : IsBehindData limit content (Some a) text)
    → HasChunks limit (text ++ b ∷ []) h.before (line_text h.line ++ (h.bytes ++ a ∷ b ∷ []))
two_behind limit content text a b h =
    chunks_rest limit _ h.before _ _
    (append_assoc (line_text h.line) (h.bytes ++ a ∷ []) (b ∷ []) ∙ ap (λ t. line_text h.line ++ t) (append_assoc h.bytes (a ∷ []) (b ∷ [])))
    (chunks_more limit text h.before _ (b ∷ []) h.chunks)

-- behind the bytes of a chunk the first byte of its CR LF has come
pub end_begins : (limit : ℕ) (content text : List ℕ) (b : ℕ) → IsBehindData limit content None text → IsBehindData limit content (Some b) (text ++ b ∷ [])
end_begins limit content text b h = record {
  before = h.before;
  line = h.line;
  bytes = h.bytes;
  chunks =
      chunks_rest limit _ h.before _ _
      (append_assoc (line_text h.line) (h.bytes ++ []) (b ∷ []) ∙ ap (λ t. line_text h.line ++ (t ++ b ∷ [])) (append-nil h.bytes))
      (chunks_more limit text h.before _ (b ∷ []) h.chunks);
  size = h.size;
  some = h.some;
  room = h.room;
  content_is = h.content_is;
}

pub end_joins : (limit : ℕ) (content text : List ℕ) (next : SizeLine) → IsBehindData limit content (Some 13) text
    → next.length ≡ 0 → next.after_cr ≡ false → next.reading ≡ Start → IsInLine limit content next (text ++ 10 ∷ [])
end_joins limit content text next h length_is cr_is reading_is =
    let joined = chunks_join limit (text ++ 10 ∷ []) h.before h.line h.bytes (two_behind limit content text 13 10 h) h.size h.some h.room in
    record {
      rest = [];
      line = [];
      chunks = subst (λ c. HasChunks limit (text ++ 10 ∷ []) c []) (sym h.content_is) joined;
      begun = subst (IsBegunLine [] []) (sym cr_is) begun_none;
      length_is = length_is;
      short = omega arith;
      reading_is = reading_is;
    }

pub end_fails : (limit : ℕ) (content text : List ℕ) (a b : ℕ) → IsBehindData limit content (Some a) text → (a ≡ 13 → b ≡ 10 → ⊥)
    → IsChunkedFault limit (text ++ b ∷ []) Bad content
end_fails limit content text a b h other = record {
  before = h.before;
  rest = line_text h.line ++ (h.bytes ++ a ∷ b ∷ []);
  held = h.bytes;
  chunks = two_behind limit content text a b h;
  unit = bad_end h.line h.bytes (a ∷ b ∷ []) refl h.size h.some h.room refl (λ is. let x : a ≡ 13 = cc in let y : b ≡ 10 = cc in other x y);
  content_is = h.content_is;
}
