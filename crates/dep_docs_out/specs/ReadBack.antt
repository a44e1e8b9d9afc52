-- What a written document is read as, where its texts are texts.
use Rattle.std.specs.Prelude.{◌≡◌, ◌<◌, ◌^◌, ℕ, min, List, [], ◌∷◌, Option, Some, option_and_then, codes, decimal, IfSome, IsTrue, ⊤}
use Rattle.std.specs.Str.{IsUtf8}
use Rattle.std.specs.List.{AllByRecursion}
use Rattle.std.specs.FinMap as finmap
use Rattle.serde_json.specs.Data.{Data, array, Items, no_items, item}
use Rattle.serde_json.specs.Find.{get, as_str}
use Rattle.serde_json.specs.Read.{read}
use Rattle.serde_json.specs.Written.{compact_text}
use Rattle.dep_moment.specs.Civil.{rfc3339_text}
use Rattle.dep_types.specs.Limits.{greatest_moment}
use Rattle.dep_types.specs.State.{Texts}
use Rattle.dep_types.specs.Names.{is_kept_name}
use Rattle.dep_types.specs.declared.config.Config.{Config}
use Rattle.dep_types.specs.declared.rows.FileRow.{FileRow}
use Rattle.dep_types.specs.declared.rows.ObjectView.{ObjectView}
use Rattle.dep_types.specs.declared.rows.UploadRow.{UploadRow}
use Rattle.dep_docs_out.specs.Documents.{object_url, file_url}

-- the text is UTF-8, and is read as this value (RFC 8259)
pub record ReadsAs (text : List ℕ) (d : Data) : Type 0 where
  pub utf8 : IsUtf8 text
  pub value : read text ≡ Some d

-- so is the document that spells this value
abbrev pub IsReadBack : Data → Type 0
IsReadBack d = ReadsAs (compact_text d) d

-- the texts of a configuration are UTF-8
pub record HasTexts (config : Config) : Type 0 where
  pub base : IsUtf8 config.base
  pub title : IsUtf8 config.title
  pub abstract_text : IsUtf8 config.abstract_text
  pub depositor : IsUtf8 config.depositor

-- and so of a file
pub record FileHasTexts (file : FileRow) : Type 0 where
  pub media : IsUtf8 file.media
  pub behalf : IfSome file.behalf (λ name. IsUtf8 name)

-- the names of metadata are those that are kept
abbrev pub HasKeptNames : Texts → Type 0
HasKeptNames texts = AllByRecursion (λ e. IsTrue (is_kept_name e.0)) (finmap.entries texts)

-- a name and its texts are UTF-8
pub record EntryHasTexts (e : List ℕ × List (List ℕ)) : Type 0 where
  pub name : IsUtf8 e.0
  pub texts : AllByRecursion (λ t. IsUtf8 t) e.1

-- and so are all of them
abbrev pub MetadataHasTexts : Texts → Type 0
MetadataHasTexts texts = AllByRecursion EntryHasTexts (finmap.entries texts)

-- the numbers of an upload and of its segments have 64 bits
pub record HasNumbers (row : UploadRow) (received : List ℕ) : Type 0 where
  pub size_fits : row.size < 2 ^ 64
  pub count_fits : row.count < 2 ^ 64
  pub segment_size_fits : row.segment_size < 2 ^ 64
  pub received_fit : AllByRecursion (λ k. k < 2 ^ 64) received

-- ---- what a value that is a status document says

-- the text of a member
abbrev pub text_at : (name : List ℕ) → Data → Option (List ℕ)
text_at name d = option_and_then as_str (get name d)

-- the text of a member of a member
abbrev pub text_within : (part name : List ℕ) → Data → Option (List ℕ)
text_within part name d = option_and_then (text_at name) (get part d)

-- of a file: where it is, its media type, its tag, when it was deposited and on whose behalf
pub record DocumentsFile (config : Config) (n : ℕ) (file : FileRow) (d : Data) : Type 0 where
  pub place : text_at (codes "@id") d ≡ Some (file_url config n file.file)
  pub media : text_at (codes "contentType") d ≡ Some file.media
  pub tag : text_at (codes "eTag") d ≡ Some (decimal file.tag)
  pub date : text_at (codes "depositedOn") d
      ≡ Some (rfc3339_text (min file.deposited greatest_moment))
  pub behalf : text_at (codes "depositedOnBehalfOf") d ≡ file.behalf

-- of all files, in their order
abbrev pub ReportsFiles : Config → (n : ℕ) → List FileRow → Items → Type 0
ReportsFiles config n [] no_items = ⊤
ReportsFiles config n [] (item d ds) = ⊥
ReportsFiles config n (file ∷ files) no_items = ⊥
ReportsFiles config n (file ∷ files) (item d ds) =
    DocumentsFile config n file d × ReportsFiles config n files ds

-- of an object: where it is, its three tags, and its files
pub record DocumentsObject (config : Config) (view : ObjectView) (d : Data) : Type 0 where
  pub place : text_at (codes "@id") d ≡ Some (object_url config view.object.object)
  pub tag : text_at (codes "eTag") d ≡ Some (decimal view.object.object_tag)
  pub metadata_tag : text_within (codes "metadata") (codes "eTag") d
      ≡ Some (decimal view.object.metadata_tag)
  pub files_tag : text_within (codes "fileSet") (codes "eTag") d
      ≡ Some (decimal view.object.files_tag)
  pub links : Items
  pub listed : get (codes "links") d ≡ Some (array links)
  pub reported : ReportsFiles config view.object.object view.files links
