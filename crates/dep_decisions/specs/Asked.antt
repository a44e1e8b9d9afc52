-- What a request asks for, by the kind of its content, and by what was read of it.
use Rattle.std.specs.Prelude.{◌≡◌, ℕ, Bool, List, [], ◌∷◌, Option, Some, unwrap_or, IfSome, if◌then◌else◌}
use Rattle.std.specs.FinMap as finmap
use Rattle.dep_types.specs.declared.target.Resource.{Resource}
use Rattle.dep_types.specs.declared.target.Resource.TheVariants.{Service, Object, Metadata, FileSet, File, Upload}
use Rattle.dep_types.specs.declared.target.Method.{Method}
use Rattle.dep_types.specs.declared.target.Method.TheVariants.{Post, Delete}
use Rattle.dep_fixity.specs.Fixity.{digests_of}
use Rattle.dep_fields.specs.declared.kind.Kind.TheVariants as of
use Rattle.dep_docs_in.specs.Documents.{metadata_read}
use Rattle.dep_docs_in.specs.declared.reference.Reference.{Reference}
use Rattle.dep_decisions.specs.Decisions.{decision_at, ingests, posted_file, referred_files}
use Rattle.dep_decisions.specs.Kinds.{is_completion, content_kind}
use Rattle.dep_decisions.specs.declared.asked.ReadContent.{ReadContent}
use Rattle.dep_decisions.specs.declared.decision.NewFile.{NewFile}
use Rattle.dep_decisions.specs.declared.decision.Deposit.{Deposit}
use Rattle.dep_decisions.specs.declared.decision.Deposit.TheVariants as deposit
use Rattle.dep_decisions.specs.declared.decision.Decision.{Decision}
use Rattle.dep_decisions.specs.declared.decision.Decision.TheVariants.{Show, Create, Append, Replace, Complete, SetMetadata, SetFiles, SetFile, DropFile, DropObject, Receive, DropUpload}
use Rattle.dep_decisions.specs.declared.operation.Operation.{Operation}

-- what was read of the content is there where it is needed, and is of this content
pub record IsContentRead (op : Operation) (read : ReadContent) : Type 0 where
  pub metadata : content_kind op ≡ Some of.Metadata → read.metadata ≡ metadata_read op.content
  pub digests : IfSome read.digests (λ d. d ≡ digests_of op.content)

-- what is asked for, where nothing is asked for it is shown
abbrev pub asked_at : Option (List Reference) → Operation → Resource → Method → Decision
asked_at refs op resource method = unwrap_or (decision_at refs op resource method) Show

-- what a deposit makes of a resource that takes one
abbrev pub deposited_in : (ingests : Bool) → Deposit → Resource → Method → Decision
deposited_in ingests d Service method = Create d ingests
deposited_in ingests d (Object n) Post = Append n d ingests
deposited_in ingests d (Object n) method = Replace n d ingests
deposited_in ingests (deposit.Metadata texts) (Metadata n) method = SetMetadata n texts
deposited_in ingests (deposit.Files files) (FileSet n) method = SetFiles n files
deposited_in ingests d resource method = Show

-- what a content makes that is a file
abbrev pub filed_in : (ingests : Bool) → NewFile → Resource → Method → Decision
filed_in ingests file (File n f) method = SetFile n f file
filed_in ingests file resource method = deposited_in ingests (deposit.Files (file ∷ [])) resource method

-- what a file of this name asks for
abbrev pub filed_at : Operation → (name : List ℕ) → Decision
filed_at op name =
    filed_in (ingests op) (posted_file op name) op.target.resource op.target.method

-- what the files ask for that these references point at
abbrev pub referred_at : Operation → List Reference → Decision
referred_at op entries = deposited_in (ingests op) (deposit.Files (referred_files op entries))
    op.target.resource op.target.method

-- the segment is received by the upload
abbrev pub received_in : (segment : ℕ) → Resource → Decision
received_in k (Upload u) = Receive u k
received_in k resource = Show

-- what a DELETE asks for
abbrev pub dropped_at : Resource → Decision
dropped_at (Object n) = DropObject n
dropped_at (Metadata n) = SetMetadata n finmap.empty
dropped_at (FileSet n) = SetFiles n []
dropped_at (File n f) = DropFile n f
dropped_at (Upload u) = DropUpload u
dropped_at resource = Show

-- what is asked for where there is no content of a kind
abbrev pub undeposited_in : Operation → Resource → Method → Decision
undeposited_in op (Object n) Post = if is_completion op then Complete n else Show
undeposited_in op resource Delete = dropped_at resource
undeposited_in op resource method = Show
