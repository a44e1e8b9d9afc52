-- Words of the laws.
use Rattle.std.specs.Prelude.{◌≡◌, ◌⊎◌, Bool, true, false, Option, Some, None, option_map, []}
use Rattle.std.specs.FinMap as finmap
use Rattle.dep_types.specs.State.{State, Object}
use Rattle.dep_types.specs.Rows.{object_view, upload_row}
use Rattle.dep_types.specs.declared.config.Config.{Config}
use Rattle.dep_types.specs.declared.refusal.Refusal.{Refusal}
use Rattle.dep_types.specs.declared.target.Method.TheVariants.{Post, Put}
use Rattle.dep_types.specs.declared.target.Resource.{Resource}
use Rattle.dep_types.specs.declared.target.Resource.TheVariants.{BagFile, File, FileSet, Staging}
use Rattle.dep_docs_out.specs.Documents.{status_document, object_url, upload_document, upload_url}
use Rattle.dep_fields.specs.declared.kind.Opening.{Opening}
use Rattle.dep_bag.specs.Numbered.{file_number}
use Rattle.dep_decisions.specs.Effects.{effect, fresh}
use Rattle.dep_decisions.specs.declared.operation.Operation.{Operation}
use Rattle.dep_answers.specs.Answers.{Document, answer}
use Rattle.dep_answers.specs.declared.performed.FileId.{FileId}
use Rattle.dep_answers.specs.Replies.{front_text, refused_answer}
use Rattle.dep_answers.specs.Steps.{accepted_answer, is_head, operation_step}

-- the resources that have a GET
abbrev pub is_shown : Resource → Bool
is_shown (FileSet n) = false
is_shown Staging = false
is_shown resource = true

-- the file whose content a GET of the resource sends, where it sends one
abbrev pub file_read : Resource → Option FileId
file_read (File n f) = Some (record { object = n; file = f })
file_read (BagFile n path) =
    option_map (λ f. record { object = n; file = f }) (file_number path)
file_read resource = None

-- an object stands at the number that was next, of the change that was next, and is answered with
pub record IsReportedObject (config : Config) (s : State) (op : Operation) : Type 0 where
  pub object : Object
  pub there : finmap.get (effect config s op).objects s.next.object ≡ Some object
  pub tag : object.tag ≡ s.next.change
  pub answer : accepted_answer config (effect config s op) op
      ≡ answer 201 (Some (Document (status_document config (object_view s.next.object object))))
      (Some s.next.change) (Some (object_url config s.next.object))

-- an upload stands at the number that was next, without segments, and is answered with
pub record IsReportedUpload (config : Config) (s : State) (op : Operation) : Type 0 where
  pub opening : Opening
  pub there : finmap.get (effect config s op).uploads s.next.upload ≡ Some (fresh s opening)
  pub answer : accepted_answer config (effect config s op) op
      ≡ answer 201
      (Some (Document (upload_document config (upload_row s.next.upload (fresh s opening)) [])))
      None (Some (upload_url config s.next.upload))

-- the request is a POST or a PUT
abbrev pub IsPostOrPut : Operation → Type 0
IsPostOrPut op = (op.target.method ≡ Post) ⊎ (op.target.method ≡ Put)

-- the tag that is answered is the number of the change
abbrev pub IsReportedTag : Config → State → Operation → Type 0
IsReportedTag config s op = (accepted_answer config (effect config s op) op).tag ≡ Some s.next.change

-- what is sent is the reply to this refusal
abbrev pub IsReportedRefusal : Config → State → Operation → Refusal → Type 0
IsReportedRefusal config s op r = (operation_step config s op).front
    ≡ front_text (refused_answer s.clock r None) s.clock (is_head op.target.method) op.closes
