-- What the parts of documents are read as.
use Rattle.std.proofs.Common.{◌≡◌, ◌≤◌, ℕ, true, List, ◌++◌, decimal, codes, IsUtf8, refl}
use Rattle.std.proofs.lemmas.Str.{IsUtf8-append}
use Rattle.json.proofs.Printed.Utf8.{IsUtf8-are_ascii, are_ascii}
use Rattle.serde_json.specs.Data.{Data}
use Rattle.serde_json.specs.Read.{max_depth}
use Rattle.serde_json.specs.Written.{compact_text}
use Rattle.dep_types.specs.Refusals.{facts_of}
use Rattle.dep_types.specs.declared.refusal.Refusal.{Refusal}
use Rattle.dep_types.specs.declared.refusal.Refusal.TheVariants.{BadRequest}
use Rattle.dep_types.specs.declared.config.Config.{Config}
use Rattle.dep_docs_out.specs.Documents.{url, object_url, files_url, file_url, metadata_url, upload_url}
use Rattle.dep_docs_out.specs.ReadBack.{ReadsAs}
use Rattle.dep_docs_out.proofs.ReadingBack.{is_plain, read_back}
use Rattle.dep_docs_out.proofs.Utf8.{HasUtf8, IsText, decimal_utf8, text_utf8}

pub ascii : (text : List ℕ) → are_ascii text ≡ true → IsUtf8 text
ascii text h = IsUtf8-are_ascii text h

pub reads : (d : Data) (n : ℕ) → n ≤ max_depth → is_plain d n ≡ true → HasUtf8 d → ReadsAs (compact_text d) d
reads d n small plain texts = record { utf8 = text_utf8 d n plain texts; value = read_back d n small plain }

-- ---- what is told of a refusal

pub name_text : (r : Refusal) → IsText (facts_of r).name
name_text BadRequest = tt
name_text _ = tt

pub words_text : (r : Refusal) → IsText (facts_of r).text
words_text BadRequest = tt
words_text _ = tt

-- ---- URLs

pub url_utf8 : (config : Config) (path : List ℕ) → IsUtf8 config.base → IsUtf8 path → IsUtf8 (url config path)
url_utf8 config path base h = IsUtf8-append config.base path base h

pub object_url_utf8 : (config : Config) (n : ℕ) → IsUtf8 config.base → IsUtf8 (object_url config n)
object_url_utf8 config n base = url_utf8 config (codes "/objects/" ++ decimal n) base (IsUtf8-append (codes "/objects/") (decimal n) (ascii _ refl) (decimal_utf8 n))

pub files_url_utf8 : (config : Config) (n : ℕ) → IsUtf8 config.base → IsUtf8 (files_url config n)
files_url_utf8 config n base = IsUtf8-append (object_url config n) (codes "/files") (object_url_utf8 config n base) (ascii _ refl)

pub metadata_url_utf8 : (config : Config) (n : ℕ) → IsUtf8 config.base → IsUtf8 (metadata_url config n)
metadata_url_utf8 config n base = IsUtf8-append (object_url config n) (codes "/metadata") (object_url_utf8 config n base) (ascii _ refl)

pub file_url_utf8 : (config : Config) (n f : ℕ) → IsUtf8 config.base → IsUtf8 (file_url config n f)
file_url_utf8 config n f base =
    IsUtf8-append (object_url config n ++ codes "/files/") (decimal f) (IsUtf8-append (object_url config n) (codes "/files/") (object_url_utf8 config n base) (ascii _ refl)) (decimal_utf8 f)

pub upload_url_utf8 : (config : Config) (n : ℕ) → IsUtf8 config.base → IsUtf8 (upload_url config n)
upload_url_utf8 config n base = url_utf8 config (codes "/staging/" ++ decimal n) base (IsUtf8-append (codes "/staging/") (decimal n) (ascii _ refl) (decimal_utf8 n))
