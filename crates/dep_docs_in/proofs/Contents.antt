-- What a content is, where it is text of UTF-8.
use Rattle.std.proofs.Common.{◌≡◌, ℕ, List, true, false, Some, None, refl, ap, ◌∙◌}
use Rattle.std.proofs.lemmas.Str.{IsUtf8-from_is_utf8, is_utf8-from_IsUtf8}
use Rattle.std.specs.Str.{IsUtf8, is_utf8}
use Rattle.serde_json.specs.Data.{Data}
use Rattle.serde_json.specs.Read.{read}
use Rattle.dep_types.specs.Maps.{provided}
use Rattle.dep_docs_in.specs.Documents.{document}

pub document-is : (content : List ℕ) (d : Data) → IsUtf8 content → read content ≡ Some d → document content ≡ Some d
unfolding document
document-is content d good is = ap (λ b. provided b (read content)) (is_utf8-from_IsUtf8 content good) ∙ is

pub no_document : (content : List ℕ) → (IsUtf8 content → read content ≡ None) → document content ≡ None
unfolding document
no_document content none = elim (is_utf8 content) as (λ b. is_utf8 content ≡ b → provided b (read content) ≡ None) [
  | true ↦ λ e. none (IsUtf8-from_is_utf8 content e)
  | false ↦ λ e. refl
] refl
