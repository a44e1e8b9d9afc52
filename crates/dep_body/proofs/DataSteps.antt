-- Some bytes more of a chunk.
use Rattle.std.proofs.Common.{◌≡◌, ℕ, ◌+◌, ◌-◌, ◌<◌, List, ◌++◌, length, None, sym, ap, subst, ◌∙◌, arith, append_assoc, append-nil, length-append}
use Rattle.dep_body.specs.Lines.{line_text}
use Rattle.dep_body.specs.Body.{IsSizeLine}
use Rattle.dep_body.specs.Standing.{IsInData, IsBehindData}
use Rattle.dep_body.proofs.ChunkLemmas.{chunks_more, chunks_rest}

pub data_goes : (limit : ℕ) (content text more : List ℕ) (left : ℕ) → IsInData limit content left text → length more < left
    → IsInData limit (content ++ more) (left - length more) (text ++ more)
data_goes limit content text more left h less =
    let count : length (h.bytes ++ more) + (left - length more) ≡ length h.bytes + left = omega (arith, length-append h.bytes more) in
    record {
      before = h.before;
      line = h.line;
      bytes = h.bytes ++ more;
      chunks = chunks_rest limit _ h.before _ _ (append_assoc (line_text h.line) h.bytes more) (chunks_more limit text h.before _ more h.chunks);
      size = subst (IsSizeLine h.line) (sym count) h.size;
      some = omega arith;
      room = omega (arith, count, h.room);
      content_is = ap (λ t. t ++ more) h.content_is ∙ append_assoc h.before h.bytes more;
    }

pub data_ends : (limit : ℕ) (content text more : List ℕ) (left : ℕ) → IsInData limit content left text → length more ≡ left
    → IsBehindData limit (content ++ more) None (text ++ more)
data_ends limit content text more left h all =
    let count : length (h.bytes ++ more) ≡ length h.bytes + left = omega (arith, length-append h.bytes more) in
    record {
      before = h.before;
      line = h.line;
      bytes = h.bytes ++ more;
      chunks =
          chunks_rest limit _ h.before _ _
          (append_assoc (line_text h.line) h.bytes more ∙ ap (λ t. line_text h.line ++ t) (sym (append-nil (h.bytes ++ more))))
          (chunks_more limit text h.before _ more h.chunks);
      size = subst (IsSizeLine h.line) (sym count) h.size;
      some = omega (arith, count, h.some);
      room = omega (arith, count, h.room);
      content_is = ap (λ t. t ++ more) h.content_is ∙ append_assoc h.before h.bytes more;
    }
