-- Which decisions may be carried out.
use Rattle.std.specs.Prelude.{◌≡◌, ℕ, true, is_some, List, Some, None, IsTrue}
use Rattle.std.specs.List.{AllByRecursion}
use Rattle.std.specs.FinMap as map
use Rattle.dep_types.specs.State as state
use Rattle.dep_types.specs.State.{State, file_at}
use Rattle.dep_types.specs.Uploads.{sizes_agree}
use Rattle.dep_types.specs.Names.{is_good_name, is_media}
use Rattle.dep_fields.specs.Fit.{IsFitOpening}
use Rattle.dep_docs_in.specs.Fit.{IsFitMetadata}
use Rattle.dep_decisions.specs.Rules.{segment_refusal}
use Rattle.dep_decisions.specs.declared.decision.NewFile.{NewFile}
use Rattle.dep_decisions.specs.declared.decision.Deposit.{Deposit}
use Rattle.dep_decisions.specs.declared.decision.Deposit.TheVariants.{Files, Metadata}
use Rattle.dep_decisions.specs.declared.decision.Decision.{Decision}
use Rattle.dep_decisions.specs.declared.decision.Decision.TheVariants.{Create, Append, Replace, SetMetadata, SetFiles, SetFile, Open, Receive}

abbrev pub IsFitFile : NewFile → Type 0
IsFitFile new = IsTrue (is_good_name new.name) × IsTrue (is_media new.media)

abbrev pub AreFitFiles : List NewFile → Type 0
AreFitFiles new = AllByRecursion IsFitFile new

abbrev pub IsFitDeposit : Deposit → Type 0
IsFitDeposit (Files new) = AreFitFiles new
IsFitDeposit (Metadata texts) = IsFitMetadata texts

-- names, media types and sizes are good; a file that is replaced is there, and a segment is expected
abbrev pub IsFitDecision : State → (content : List ℕ) → Decision → Type 0
IsFitDecision s content (Create d ingests) = IsFitDeposit d
IsFitDecision s content (Append n d ingests) = IsFitDeposit d
IsFitDecision s content (Replace n d ingests) = IsFitDeposit d
IsFitDecision s content (SetMetadata n texts) = IsFitMetadata texts
IsFitDecision s content (SetFiles n new) = AreFitFiles new
IsFitDecision s content (SetFile n f new) = IsFitFile new × (is_some (file_at s n f) ≡ true)
IsFitDecision s content (Open o) =
    IsFitOpening o × IsTrue (sizes_agree o.size o.count o.segment_size)
IsFitDecision s content (Receive u k) =
    (upload : state.Upload) → map.get s.uploads u ≡ Some upload
    → segment_refusal upload k content ≡ None
IsFitDecision s content _ = Unit {0}
