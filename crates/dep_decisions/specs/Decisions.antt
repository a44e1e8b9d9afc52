-- What an accepted request asks for, and how many numbers it takes.
use Rattle.std.specs.Prelude.{ℕ, not, Bool, List, [], ◌∷◌, length, Option, Some, None, option_map, option_and_then, unwrap_or, if◌then◌else◌}
use Rattle.std.specs.List.{filter_map}
use Rattle.std.specs.FinMap as finmap
use Rattle.dep_types.specs.State.{Texts}
use Rattle.dep_types.specs.Numbers.{numbers}
use Rattle.dep_types.specs.declared.counters.Counters.{Counters}
use Rattle.dep_types.specs.declared.config.Config.{Config}
use Rattle.dep_types.specs.declared.target.Resource.{Resource}
use Rattle.dep_types.specs.declared.target.Resource.TheVariants.{Service, Object, Metadata, FileSet, File, Staging, Upload}
use Rattle.dep_types.specs.declared.target.Method.{Method}
use Rattle.dep_types.specs.declared.target.Method.TheVariants.{Post, Put, Delete}
use Rattle.dep_fixity.specs.Fixity.{digests_of}
use Rattle.dep_fields.specs.declared.field.Field.{Field}
use Rattle.dep_fields.specs.declared.field.Field.TheVariants.{Absent, Bad, Value}
use Rattle.dep_fields.specs.declared.kind.Kind.{Kind}
use Rattle.dep_fields.specs.declared.kind.Kind.TheVariants as of
use Rattle.dep_docs_in.specs.Documents.{default_media, metadata_read, references_read}
use Rattle.dep_docs_in.specs.declared.reference.Reference.{Reference}
use Rattle.dep_docs_in.specs.declared.reference.Pointed.{Pointed}
use Rattle.dep_docs_in.specs.declared.reference.Pointed.TheVariants.{Upload as AnUpload, Elsewhere}
use Rattle.dep_decisions.specs.Kinds.{content_kind, is_completion, is_true}
use Rattle.dep_decisions.specs.declared.operation.Operation.{Operation}
use Rattle.dep_decisions.specs.declared.decision.ContentSource.TheVariants.{Posted, Assembled}
use Rattle.dep_decisions.specs.declared.decision.NewFile.{NewFile}
use Rattle.dep_decisions.specs.declared.decision.Deposit.{Deposit}
use Rattle.dep_decisions.specs.declared.decision.Deposit.TheVariants as deposit
use Rattle.dep_decisions.specs.declared.decision.Decision.{Decision}
use Rattle.dep_decisions.specs.declared.decision.Decision.TheVariants.{Show, Create, Append, Replace, Complete, SetMetadata, SetFiles, SetFile, DropFile, DropObject, Open, Receive, DropUpload}

-- ---- references

-- the entries of a document of references, where that is what the content is for
abbrev pub references_by : Config → Operation → Option Kind → Option (List Reference)
references_by config op (Some of.References) = references_read config.base op.content
references_by config op _ = None

-- the entries that the content of a request lists, where it is a document of references
unfoldable pub references_in : Config → Operation → Option (List Reference)
references_in config op = references_by config op (content_kind op)

-- ---- deposits

abbrev pub field_value : {X : Type 0} → Field X → Option X
field_value (Value x) = Some x
field_value Bad = None
field_value Absent = None

abbrev pub behalf_of : Operation → Option (List ℕ)
behalf_of op = field_value op.fields.on_behalf_of

-- the content itself as a file
abbrev pub posted_file : Operation → (name : List ℕ) → NewFile
posted_file op name = record {
  name = name;
  media = unwrap_or (field_value op.fields.content_type) default_media;
  source = Posted (digests_of op.content);
  behalf = behalf_of op;
}

-- the number of the upload that an entry points at
abbrev pub upload_number : Pointed → Option ℕ
upload_number (AnUpload u) = Some u
upload_number Elsewhere = None

-- an upload as a file
abbrev pub assembled_file : Operation → Reference → (upload : ℕ) → NewFile
assembled_file op r u = record {
  name = r.name;
  media = r.media;
  source = Assembled u;
  behalf = behalf_of op;
}

abbrev pub referred_file : Operation → Reference → Option NewFile
referred_file op r = option_map (assembled_file op r) (upload_number r.target)

-- the uploads that the entries point at, as files
abbrev pub referred_files : Operation → List Reference → List NewFile
referred_files op refs = filter_map (referred_file op) refs

-- what the content deposits, with the references in it
abbrev pub deposit_by : Option (List Reference) → Operation → Kind → Option Deposit
deposit_by refs op (of.File name) = Some (deposit.Files (posted_file op name ∷ []))
deposit_by refs op of.Metadata =
    option_map (λ texts. deposit.Metadata texts) (metadata_read op.content)
deposit_by refs op of.References =
    option_map (λ entries. deposit.Files (referred_files op entries)) refs
deposit_by refs op _ = None

unfoldable pub deposit_of : Option (List Reference) → Operation → Option Deposit
deposit_of refs op = option_and_then (deposit_by refs op) (content_kind op)

abbrev pub files_of : Deposit → Option (List NewFile)
files_of (deposit.Files files) = Some files
files_of (deposit.Metadata texts) = None

abbrev pub texts_of : Deposit → Option Texts
texts_of (deposit.Files files) = None
texts_of (deposit.Metadata texts) = Some texts

-- ---- decisions

-- the object becomes ingested unless In-Progress is true
abbrev pub ingests : Operation → Bool
ingests op = not (is_true op.fields.in_progress)

abbrev pub replaced_file : Operation → (n f : ℕ) → Kind → Option Decision
replaced_file op n f (of.File name) = Some (SetFile n f (posted_file op name))
replaced_file op n f _ = None

abbrev pub opened : Kind → Option Decision
opened (of.Opening o) = Some (Open o)
opened _ = None

abbrev pub received : (upload : ℕ) → Kind → Option Decision
received u (of.Segment k) = Some (Receive u k)
received u _ = None

-- what is added to an object, or that it is completed
abbrev pub appended_or_completed : Option (List Reference) → Operation → ℕ → Option Decision
appended_or_completed refs op n =
    if is_completion op then Some (Complete n)
    else option_map (λ d. Append n d (ingests op)) (deposit_of refs op)

-- what this method of this resource asks for, with the references in the content
abbrev pub decision_at : Option (List Reference) → Operation → Resource → Method → Option Decision
decision_at refs op Service Post = option_map (λ d. Create d (ingests op)) (deposit_of refs op)
decision_at refs op (Object n) Post = appended_or_completed refs op n
decision_at refs op (Object n) Put =
    option_map (λ d. Replace n d (ingests op)) (deposit_of refs op)
decision_at refs op (Object n) Delete = Some (DropObject n)
decision_at refs op (Metadata n) Put =
    option_map (λ texts. SetMetadata n texts) (option_and_then texts_of (deposit_of refs op))
decision_at refs op (Metadata n) Delete = Some (SetMetadata n finmap.empty)
decision_at refs op (FileSet n) Put =
    option_map (λ files. SetFiles n files) (option_and_then files_of (deposit_of refs op))
decision_at refs op (FileSet n) Delete = Some (SetFiles n [])
decision_at refs op (File n f) Put = option_and_then (replaced_file op n f) (content_kind op)
decision_at refs op (File n f) Delete = Some (DropFile n f)
decision_at refs op Staging Post = option_and_then opened (content_kind op)
decision_at refs op (Upload u) Post = option_and_then (received u) (content_kind op)
decision_at refs op (Upload u) Delete = Some (DropUpload u)
decision_at refs op _ _ = None

-- what is asked for, given the references that were read; to show what is there, if nothing else
unfoldable pub decision_with : Option (List Reference) → Operation → Decision
decision_with refs op = unwrap_or (decision_at refs op op.target.resource op.target.method) Show

-- what an accepted request asks for
abbrev pub decision : Config → Operation → Decision
decision config op = decision_with (references_in config op) op

-- ---- numbers

-- how many files a deposit adds
abbrev pub count_of : Deposit → ℕ
count_of (deposit.Files files) = length files
count_of (deposit.Metadata texts) = 0

-- how many numbers it takes: of objects, files, uploads and changes
abbrev pub numbers_for : Decision → Counters
numbers_for Show = numbers 0 0 0 0
numbers_for (Create d ingests) = numbers 1 (count_of d) 0 1
numbers_for (Append n d ingests) = numbers 0 (count_of d) 0 1
numbers_for (Replace n d ingests) = numbers 0 (count_of d) 0 1
numbers_for (Complete n) = numbers 0 0 0 1
numbers_for (SetMetadata n texts) = numbers 0 0 0 1
numbers_for (SetFiles n files) = numbers 0 (length files) 0 1
numbers_for (SetFile n f new) = numbers 0 0 0 1
numbers_for (DropFile n f) = numbers 0 0 0 1
numbers_for (DropObject n) = numbers 0 0 0 0
numbers_for (Open o) = numbers 0 0 1 0
numbers_for (Receive u k) = numbers 0 0 0 0
numbers_for (DropUpload u) = numbers 0 0 0 0
