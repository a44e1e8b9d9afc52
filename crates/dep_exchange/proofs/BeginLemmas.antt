-- What begins to be sent is the content that its step names.
use Rattle.std.proofs.Common.{◌≡◌, Option, Some, None, subst}
use Rattle.std.specs.Prelude.{IfSome}
use Rattle.dep_answers.specs.Performing.{IsReady, file_id}
use Rattle.dep_answers.specs.Steps.{Stepped}
use Rattle.dep_answers.specs.declared.performed.Performed.{Performed}
use Rattle.dep_answers.specs.declared.performed.StoredFile.{StoredFile}
use Rattle.dep_exchange.specs.declared.rest.Rest.{Rest}

-- what begins is this, of which that is known
pub begins_as : (P Q : Rest → Type 0) (o : Option Rest) → ((r : Rest) → P r → Q r) → IfSome o P → IfSome o Q
begins_as P Q None f h = tt
begins_as P Q (Some r) f h = f r h

-- it is the content of the file that the step names
pub ready_source : (stepped : Stepped) (p : Performed) (it : StoredFile) → IsReady stepped p → p.stored ≡ Some it → stepped.source ≡ Some (file_id it)
ready_source stepped p it ready e = subst (λ (o : Option StoredFile). IfSome o (λ x. stepped.source ≡ Some (file_id x))) e ready.source
