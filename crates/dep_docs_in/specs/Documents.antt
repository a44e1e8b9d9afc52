-- The documents that senders write: metadata, and references to uploads (SWORD 3.0).
use Rattle.std.specs.Prelude.{ℕ, nat_eq, Bool, true, false, List, [], ◌∷◌, length, drop, Option, Some, None, option_map, option_and_then, codes, bytes_eq, if◌then◌else◌}
use Rattle.std.specs.List.{starts_with}
use Rattle.std.specs.Option.{option_map_or}
use Rattle.std.specs.Str.{is_utf8}
use Rattle.std.specs.Result.{result_ok}
use Rattle.std.specs.FinMap as map
use Rattle.serde_json.specs.Data.{Data, Items, no_items, item, Members, no_members, member}
use Rattle.serde_json.specs.Read.{read}
use Rattle.serde_json.specs.Find.{get, as_str, as_array, as_object, as_number, as_u64}
use Rattle.url.specs.Parser.{parse_url}
use Rattle.url.specs.Parts.{serialize}
use Rattle.dep_types.specs.Maps.{◌>>=◌, provided, optional}
use Rattle.dep_types.specs.State.{Texts}
use Rattle.dep_types.specs.Names.{if_passes, is_kept_name, is_media}
use Rattle.dep_types.specs.Numbers.{number_in}
use Rattle.dep_params.specs.Grammar.{DispositionValue, names_of}
use Rattle.dep_params.specs.Reported.{file_name_of, is_each_once, disposition_of}
use Rattle.dep_fixity.specs.Fixity.{digest_field, none_promised}
use Rattle.dep_fixity.specs.declared.field.DigestList.{DigestList}
use Rattle.dep_docs_in.specs.declared.reference.Reference.{Reference}
use Rattle.dep_docs_in.specs.declared.reference.Pointed.{Pointed}
use Rattle.dep_docs_in.specs.declared.reference.Pointed.TheVariants.{Upload, Elsewhere}

-- the value that a content is, as text of UTF-8 (RFC 8259)
unfoldable pub document : List ℕ → Option Data
document content = provided (is_utf8 content) (read content)

-- `@type` is absent, or this
abbrev pub has_type : List ℕ → Data → Bool
has_type name d =
    option_map_or (λ t. option_map_or (bytes_eq name) (as_str t) false)
    (get (codes "@type") d) true

-- what each item says, where each says something
unfoldable pub each_read : {X : Type 0} → (Data → Option X) → Items → Option (List X)
each_read reads no_items = Some []
each_read reads (item d ds) = do
  x ← reads d
  xs ← each_read reads ds
  Some (x ∷ xs)

-- the text under a name
abbrev pub text_under : List ℕ → Data → Option (List ℕ)
text_under name d = option_and_then as_str (get name d)

-- the items of the list under a name
abbrev pub items_under : List ℕ → Data → Option Items
items_under name d = get name d >>= as_array

-- ---- metadata

-- a text, or a list of texts
abbrev pub text_or_list : Option (List ℕ) → Option Items → Option (List (List ℕ))
text_or_list (Some text) list = Some (text ∷ [])
text_or_list None list = list >>= each_read as_str

abbrev pub texts_in : Data → Option (List (List ℕ))
texts_in d = text_or_list (as_str d) (as_array d)

-- no texts keep no name
abbrev pub keep : List ℕ → List (List ℕ) → Texts → Texts
keep name [] kept = kept
keep name (text ∷ texts) kept = map.insert kept name (text ∷ texts)

-- what members keep, beside what is kept already
unfoldable pub kept_texts : Texts → Members → Option Texts
kept_texts kept no_members = Some kept
kept_texts kept (member name d rest) =
    if is_kept_name name then texts_in d >>= (λ texts. kept_texts (keep name texts kept) rest)
    else kept_texts kept rest

-- what a metadata document keeps, by its value
abbrev pub metadata_of : Data → Option Texts
metadata_of d = do
  ms ← as_object d
  provided (has_type (codes "Metadata") d) (kept_texts map.empty ms)

-- and by its text
abbrev pub metadata_read : List ℕ → Option Texts
metadata_read content = document content >>= metadata_of

-- ---- references

-- the text that the URL standard gives for a text
abbrev pub url_text : List ℕ → Option (List ℕ)
url_text text = option_map (λ url. serialize url) (result_ok (parse_url None text))

-- what follows this front
abbrev pub behind : (front text : List ℕ) → Option (List ℕ)
behind front text = if starts_with nat_eq text front then Some (drop (length front) text) else None

-- the number of an upload of this server, by the text of its URL
abbrev pub upload_in_url : (base url : List ℕ) → Option ℕ
upload_in_url base url = behind base url >>= behind (codes "/staging/") >>= number_in

abbrev pub pointed_by : (base url : List ℕ) → Pointed
pointed_by base url = option_map_or (λ n. Upload n) (upload_in_url base url) Elsewhere

unfoldable pub target_of : (base : List ℕ) → Data → Option Pointed
target_of base d = option_map (pointed_by base) (text_under (codes "@id") d >>= url_text)

-- the file name of an attachment
abbrev pub form_name : DispositionValue → Option (List ℕ)
form_name r = provided (bytes_eq r.form (codes "attachment")) (file_name_of r)

-- in which no name of a parameter stands twice
abbrev pub attachment_name : DispositionValue → Option (List ℕ)
attachment_name r = provided (is_each_once (names_of r)) (form_name r)

unfoldable pub name_of : Data → Option (List ℕ)
name_of d = text_under (codes "contentDisposition") d >>= disposition_of >>= attachment_name

abbrev pub media_in : Data → Option (List ℕ)
media_in d = as_str d >>= if_passes is_media

-- the media type where none is given
abbrev pub default_media : List ℕ
default_media = codes "application/octet-stream"

unfoldable pub media_in_entry : Data → Option (List ℕ)
media_in_entry d = option_map_or media_in (get (codes "contentType") d) (Some default_media)

unfoldable pub length_of : Data → Option (Option ℕ)
length_of d = optional (λ n. as_number n >>= as_u64) (get (codes "contentLength") d)

unfoldable pub packaging_of : Data → Option (Option (List ℕ))
packaging_of d = optional as_str (get (codes "packaging") d)

unfoldable pub digest_of : Data → Option DigestList
digest_of d =
    option_map_or (λ t. option_and_then digest_field (as_str t))
    (get (codes "digest") d) (Some none_promised)

unfoldable pub reference_in : (base : List ℕ) → Data → Option Reference
reference_in base d = do
  target ← target_of base d
  name ← name_of d
  media ← media_in_entry d
  length ← length_of d
  packaging ← packaging_of d
  digest ← digest_of d
  Some (record {
    target = target;
    name = name;
    media = media;
    length = length;
    packaging = packaging;
    digest = digest;
  })

abbrev pub not_empty : {X : Type 0} → List X → Option (List X)
not_empty [] = None
not_empty (x ∷ xs) = Some (x ∷ xs)

-- the entries that a document of references has, by its value
abbrev pub entries_of : Data → Option Items
entries_of d = provided (has_type (codes "ByReference") d) (items_under (codes "byReferenceFiles") d)

-- what they say, to a server of this base
abbrev pub references_of : (base : List ℕ) → Data → Option (List Reference)
references_of base d = do
  items ← entries_of d
  entries ← each_read (reference_in base) items
  not_empty entries

-- and by its text
abbrev pub references_read : (base content : List ℕ) → Option (List Reference)
references_read base content = document content >>= references_of base
