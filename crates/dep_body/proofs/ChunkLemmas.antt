-- Texts that are chunks and a rest.
use Rattle.std.proofs.Common.{◌≡◌, ℕ, ◌+◌, ◌<◌, ◌≤◌, List, [], ◌∷◌, ◌++◌, length, refl, sym, ap, subst, ◌∙◌, arith, append_assoc, append-nil, length-append}
use Rattle.std.proofs.lemmas.Grind.{flat_map-append}
use Rattle.std.proofs.lemmas.List.Elements.{All-append, All-cons, All-nil}
use Rattle.dep_body.specs.Lines.{crlf, line_text}
use Rattle.dep_body.specs.Body.{Chunk, IsChunk, IsSizeLine, HasChunks, chunk_text, chunks_text, chunks_content}

pub chunks_none : (limit : ℕ) → HasChunks limit [] [] []
chunks_none limit = record { chunks = []; are = λ k d below. absurd (omega arith); text_is = refl; content_is = refl; fits = omega arith }

-- more bytes go to the rest
pub chunks_more : (limit : ℕ) (text content rest more : List ℕ) → HasChunks limit text content rest → HasChunks limit (text ++ more) content (rest ++ more)
chunks_more limit text content rest more h = record {
  chunks = h.chunks;
  are = h.are;
  text_is = ap (λ t. t ++ more) h.text_is ∙ append_assoc (chunks_text h.chunks) rest more;
  content_is = h.content_is;
  fits = h.fits;
}

pub chunks_rest : (limit : ℕ) (text content rest other : List ℕ) → rest ≡ other → HasChunks limit text content rest → HasChunks limit text content other
chunks_rest limit text content rest other e h = subst (HasChunks limit text content) e h

-- a whole chunk joins the chunks
pub chunks_join : (limit : ℕ) (text content line bytes : List ℕ) → HasChunks limit text content (line_text line ++ (bytes ++ crlf))
    → IsSizeLine line (length bytes) → 0 < length bytes → length content + length bytes ≤ limit → HasChunks limit text (content ++ bytes) []
chunks_join limit text content line bytes h size some room =
    let c : Chunk = record { line = line; bytes = bytes } in
    record {
      chunks = h.chunks ++ c ∷ [];
      are = All-append IsChunk h.chunks (c ∷ []) h.are (All-cons IsChunk c [] (record { size = size; some = some }) (All-nil IsChunk));
      text_is =
          h.text_is ∙ ap (λ t. chunks_text h.chunks ++ t) (sym (append-nil (chunk_text c)))
          ∙ sym (flat_map-append chunk_text h.chunks (c ∷ [])) ∙ sym (append-nil (chunks_text (h.chunks ++ c ∷ [])));
      content_is =
          ap (λ t. t ++ bytes) h.content_is ∙ ap (λ t. chunks_content h.chunks ++ t) (sym (append-nil bytes))
          ∙ sym (flat_map-append (λ (k : Chunk). k.bytes) h.chunks (c ∷ []));
      fits = rw length-append room;
    }
