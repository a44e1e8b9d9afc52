-- A text is the text of at most one head.
use Rattle.std.proofs.Common.{◌≡◌, ℕ, List, [], map, not, ◌||◌, ◌==◌, is_some, length, sym, ap, subst, ◌∙◌, if◌then◌else◌}
use Rattle.httparse.specs.Grammar.{RequestHead}
use Rattle.httparse.specs.Spans.{name_and_value}
use Rattle.httparse.proofs.GrammarLemmas.{request_unique}
use Rattle.http_uri.specs.declared.uri.Uri.{Uri}
use Rattle.http_uri.specs.Grammar.{path_of}
use Rattle.http_uri.specs.Uri.{Spells, uri_path, uri_data, uri_scheme}
use Rattle.http_uri.proofs.Theorems.{Spells_unique}
use Rattle.dep_head.specs.Head.{HeadParts, IsHeadText}

same_path : (target : List ℕ) (u v : Uri) → Spells target u → Spells target v → uri_path u ≡ uri_path v
same_path target u v h k =
    let same = Spells_unique target u v h k in
    ap (λ d. if not (length d == 0) || is_some (uri_scheme u) then path_of d else []) same.2
    ∙ ap (λ s. if not (length (uri_data v) == 0) || is_some s then path_of (uri_data v) else []) same.0

pub one_head : (text : List ℕ) (a b : HeadParts) → IsHeadText text a → IsHeadText text b → a ≡ b
one_head text a b h k =
    let same = (request_unique text h.head k.head [] [] h.reads k.reads).0 in
    let target = subst (λ t. Spells t k.uri) (sym (ap (λ (r : RequestHead). r.target) same)) k.spelled in
    λ i. record {
      method = (h.method_is ∙ ap (λ (r : RequestHead). r.method) same ∙ sym k.method_is) i;
      path = (h.path_is ∙ same_path h.head.target h.uri k.uri h.spelled target ∙ sym k.path_is) i;
      minor = (h.minor_is ∙ ap (λ (r : RequestHead). r.minor) same ∙ sym k.minor_is) i;
      fields = (h.fields_are ∙ ap (λ (r : RequestHead). map name_and_value r.fields) same ∙ sym k.fields_are) i;
    }
