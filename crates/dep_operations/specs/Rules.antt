-- The rulings by what a view shows, and what each rule on references says of an entry.
use Rattle.std.specs.Prelude.{◌≡◌, true, is_some, Option, Some, None}
use Rattle.std.specs.Option.{option_map_or}
use Rattle.dep_types.specs.declared.config.Config.{Config}
use Rattle.dep_types.specs.declared.refusal.Refusal.{Refusal}
use Rattle.dep_types.specs.declared.refusal.Refusal.TheVariants.{BadRequest, ByReferenceNotAllowed, PackagingFormatNotAcceptable}
use Rattle.dep_docs_in.specs.declared.reference.Reference.{Reference}
use Rattle.dep_decisions.specs.Decisions.{decision_with, upload_number}
use Rattle.dep_decisions.specs.LookUps.{Entry}
use Rattle.dep_decisions.specs.Rules.{digests_refusal, is_binary, length_refusal, refusal_by, there_refusal, unless, whole_refusal}
use Rattle.dep_decisions.specs.declared.operation.Operation.{Operation}
use Rattle.dep_operations.specs.Seen.{in_view, known_live, live_in}
use Rattle.dep_operations.specs.declared.references.EntryRule.{EntryRule}
use Rattle.dep_operations.specs.declared.references.EntryRule.TheVariants.{PointsAtUpload, IsBinary}
use Rattle.dep_operations.specs.declared.references.UploadRule.{UploadRule}
use Rattle.dep_operations.specs.declared.references.UploadRule.TheVariants.{IsThere, IsWhole, HasLength, HasDigests}
use Rattle.dep_operations.specs.declared.ruling.Ruling.{Ruling}
use Rattle.dep_operations.specs.declared.ruling.Ruling.TheVariants.{Do, Refuse}
use Rattle.dep_operations.specs.declared.view.LiveUpload.{LiveUpload}
use Rattle.dep_operations.specs.declared.view.UploadState.{UploadState}
use Rattle.dep_operations.specs.declared.view.View.{View}

abbrev pub entry_refusal : EntryRule → Reference → Option Refusal
entry_refusal PointsAtUpload r = unless (is_some (upload_number r.target)) ByReferenceNotAllowed
entry_refusal IsBinary r = unless (is_binary r.packaging) PackagingFormatNotAcceptable

abbrev pub rule_of : UploadRule → Entry LiveUpload → Option Refusal
rule_of IsThere e = there_refusal e
rule_of IsWhole e = whole_refusal known_live e
rule_of HasLength e = length_refusal known_live e
rule_of HasDigests e = digests_refusal known_live e

-- a segment of the upload is missing, where it is there
abbrev pub live_segments_refusal : UploadState → Option Refusal
live_segments_refusal state = unless (option_map_or known_live.is_whole (live_in state) true) BadRequest

-- the ruling by what the view shows
abbrev pub IsSeen : Config → View → Operation → Ruling → Type 0
IsSeen config view op (Refuse r) = refusal_by config (in_view view) op ≡ Some r
IsSeen config view op (Do d) =
    (refusal_by config (in_view view) op ≡ None) × (d ≡ decision_with view.references op)
