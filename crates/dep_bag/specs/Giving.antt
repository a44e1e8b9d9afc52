-- How files are given to a sink, one after another.
use Rattle.std.specs.Prelude.{◌≡◌, ◌≢◌, ℕ, List, [], ◌∷◌, ◌++◌, flat_map, codes, Option, Result, Ok, Err, ⊤}
use Rattle.std.specs.Io.KnownBytes.{Appends}
use Rattle.dep_types.specs.State.{State}
use Rattle.dep_types.specs.Conditions.{Condition}
use Rattle.dep_types.specs.Writing.{HasRisen}
use Rattle.dep_types.specs.Sinks.{PathAndBytes, folder_made, file_given, IsPrefix}
use Rattle.dep_types.specs.declared.rows.FileRow.{FileRow}
use Rattle.dep_types.specs.declared.rows.ObjectView.{ObjectView}
use Rattle.dep_types.specs.Streams.{HasContent}
use Rattle.dep_manifest.specs.Reported.{row_path, reported_listed}
use Rattle.dep_bag.specs.Parts.{reported_tag_files, reported_tag_manifests}
use Rattle.dep_bag.specs.Source.{OfEachState, KeepsStanding, StandsStill}
use Rattle.dep_bag.specs.declared.export_fault.ExportFault.{ExportFault}
use Rattle.dep_bag.specs.declared.export_fault.ExportFault.TheVariants.{NoSuchObject, Sink, Store, Memory}

-- a prefix of it was given; no such fault says that the object isn't there
abbrev pub IsGivenAt : ExportFault → (whole given : List ℕ) → Type 0
IsGivenAt NoSuchObject whole given = ⊥
IsGivenAt Sink whole given = IsPrefix given whole
IsGivenAt Store whole given = IsPrefix given whole
IsGivenAt Memory whole given = IsPrefix given whole

-- all of it was given, or after a fault a prefix of it
abbrev pub IsGivenOrPrefix : {X : Type 0} → (whole given : List ℕ) → Result X ExportFault → Type 0
IsGivenOrPrefix whole given (Ok x) = given ≡ whole
IsGivenOrPrefix whole given (Err fault) = IsGivenAt fault whole given

-- the sink's count of failures rose where the fault is the sink's, and stayed at any other
abbrev pub IsCausedBy : ExportFault → (failures failures_after : ℕ) → Type 0
IsCausedBy Sink failures failures_after = HasRisen failures failures_after
IsCausedBy NoSuchObject failures failures_after = failures_after ≡ failures
IsCausedBy Store failures failures_after = failures_after ≡ failures
IsCausedBy Memory failures failures_after = failures_after ≡ failures

-- and it stayed where there is no fault
abbrev pub AccountsForFailures : {X : Type 0} → Result X ExportFault → (failures failures_after : ℕ) → Type 0
AccountsForFailures (Ok x) failures failures_after = failures_after ≡ failures
AccountsForFailures (Err fault) failures failures_after = IsCausedBy fault failures failures_after

-- what is known of a sink: what it took, where it shows it, and how many of its writes failed
pub record SinkState : Type 0 where
  pub taken : Option (List ℕ)
  pub failures : ℕ

-- all of it was given, or after a fault, which has its cause, a prefix of it
pub record IsGivenTo {X : Type 0} (old new : SinkState) (whole : List ℕ)
    (result : Result X ExportFault) : Type 0 where
  pub given : List ℕ
  pub appends : Appends old.taken new.taken given
  pub is : IsGivenOrPrefix whole given result
  pub cause : AccountsForFailures result old.failures new.failures

-- What was given as a source streams it: it is so in each state for which the source stood, and a
-- fault, which isn't that the object isn't there, has its cause. The source stands still.
pub record IsStreamedTo {X : Type 0} (stood represents : Condition) (old new : SinkState)
    (holds : State → (given : List ℕ) → Result X ExportFault → Type 0)
    (result : Result X ExportFault) : Type 0 where
  pub given : List ℕ
  pub appends : Appends old.taken new.taken given
  pub is : OfEachState stood represents (λ s. holds s given result)
  pub cause : AccountsForFailures result old.failures new.failures
  pub kept : KeepsStanding stood represents result
  pub still : StandsStill stood represents
  pub there : result ≢ Err NoSuchObject

module _ {K : Type 0} (taken : K → Option (List ℕ)) (failures : K → ℕ) where
  -- what a sink shows of itself
  abbrev pub state_of : K → SinkState
  state_of sink = record { taken = taken sink; failures = failures sink }

  -- this was given to a sink
  abbrev pub GivesWhole : {X : Type 0} → (old new : K) → (whole : List ℕ) → Result X ExportFault
      → Type 0
  GivesWhole old new whole result = IsGivenTo (state_of old) (state_of new) whole result

  -- and this as a source streams it
  abbrev pub StreamsFrom : {X S : Type 0} → (S → Condition) → (stood represents : S) → (old new : K)
      → (State → (given : List ℕ) → Result X ExportFault → Type 0) → Result X ExportFault
      → Type 0
  StreamsFrom condition stood represents old new holds result = IsStreamedTo (condition stood)
      (condition represents) (state_of old) (state_of new) holds result

-- the folder of the payload, and the files that a tag manifest names
abbrev pub listed_transcript : ObjectView → List ℕ
listed_transcript view = folder_made (codes "data") ++ flat_map file_given (reported_listed view)

-- the folder of the payload, and the files that are not payload
abbrev pub tag_transcript : ObjectView → List ℕ
tag_transcript view = folder_made (codes "data") ++ flat_map file_given (reported_tag_files view)

-- the tag manifests
abbrev pub manifests_transcript : ObjectView → List ℕ
manifests_transcript view = flat_map file_given (reported_tag_manifests view)

-- these are the files of the rows: their paths, and their contents in the state
abbrev pub AreFilesOf : State → List FileRow → List PathAndBytes → Type 0
AreFilesOf s [] [] = ⊤
AreFilesOf s [] (file ∷ files) = ⊥
AreFilesOf s (row ∷ rows) [] = ⊥
AreFilesOf s (row ∷ rows) (file ∷ files) =
    (file.0 ≡ row_path row) × HasContent s row.file file.1 × AreFilesOf s rows files

-- the content of the file of a row was given
abbrev pub IsContentGiven : {X : Type 0} → FileRow → State → (given : List ℕ)
    → Result X ExportFault → Type 0
IsContentGiven row s given result = (bytes : List ℕ) → HasContent s row.file bytes
    → IsGivenOrPrefix (file_given (row_path row, bytes)) given result

-- the files of the rows were given
abbrev pub AreContentsGiven : {X : Type 0} → List FileRow → State → (given : List ℕ)
    → Result X ExportFault → Type 0
AreContentsGiven rows s given result = (files : List PathAndBytes) → AreFilesOf s rows files
    → IsGivenOrPrefix (flat_map file_given files) given result
