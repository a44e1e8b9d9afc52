-- What parts of a change make of the state.
use Rattle.std.specs.Prelude.{◌≡◌, ℕ, List, length, map as each, Bool}
use Rattle.std.specs.Option.{option_to_list}
use Rattle.std.specs.FinMap as map
use Rattle.dep_types.specs.State.{State, Object, File}
use Rattle.dep_types.specs.Rows.{file_row}
use Rattle.dep_types.specs.declared.rows.FileRow.{FileRow}
use Rattle.dep_types.specs.declared.rows.ObjectRow.{ObjectRow}
use Rattle.dep_fixity.specs.Fixity.{digests_of}
use Rattle.dep_decisions.specs.Effects.{files_added, is_reference, objects_after, upload_of, uploads_after, uploads_in, without}
use Rattle.dep_decisions.specs.declared.decision.ContentSource.{ContentSource}
use Rattle.dep_decisions.specs.declared.decision.NewFile.{NewFile}
use Rattle.dep_decisions.specs.declared.decision.Deposit.{Deposit}
use Rattle.dep_decisions.specs.declared.decision.Deposit.TheVariants.{Files, Metadata}
use Rattle.dep_decisions.specs.declared.decision.Decision.{Decision}
use Rattle.dep_operations.specs.declared.view.View.{View}
use Rattle.dep_requests.specs.declared.change.Change.{Change}
use Rattle.dep_requests.specs.declared.new_files.FileNumbers.{FileNumbers}
use Rattle.dep_requests.specs.declared.new_files.Extent.{Extent}

-- a new file with these bytes
abbrev pub made_file : State → NewFile → (bytes : List ℕ) → File
made_file s new bytes = record {
  name = new.name;
  media = new.media;
  content = bytes;
  tag = s.next.change;
  deposited = s.clock;
  behalf = new.behalf;
  by_reference = is_reference new.source;
}

-- the object has the file, and the upload that its bytes were taken from is gone
abbrev pub with_deposited_file : State → (n : ℕ) → Object → (f : ℕ) → File → ContentSource → State
with_deposited_file s n o f file source = record s {
  objects = map.insert s.objects n (record o { files = map.insert o.files f file });
  uploads = without s.uploads (option_to_list (upload_of source));
}

-- the object with the deposit put in: new files beside its own, or these texts alone
abbrev pub put_in : State → (content : List ℕ) → Deposit → Object → Object
put_in s content (Files new) o = record o { files = files_added s content new o.files }
put_in s content (Metadata texts) o = record o { metadata = texts }

-- the object is at its number, and the uploads that the deposit takes are gone
abbrev pub with_deposit : State → (n : ℕ) → Object → Deposit → State
with_deposit s n o d = record s {
  objects = map.insert s.objects n o;
  uploads = without s.uploads (uploads_in d);
}

-- what a decision makes of the objects and the uploads
abbrev pub with_maps : State → (content : List ℕ) → Decision → State
with_maps s content d = record s {
  objects = objects_after s content d;
  uploads = uploads_after s content d;
}

-- ---- rows

-- the row of an object that has nothing, at the clock and with the number of the change as its tags
abbrev pub blank_row : View → (n : ℕ) → (ingested : Bool) → ObjectRow
blank_row view n ingested = record {
  object = n;
  ingested = ingested;
  object_tag = view.next.change;
  metadata_tag = view.next.change;
  files_tag = view.next.change;
  changed = view.clock;
}

-- the row of a new file of such an extent, at the clock, with the number of the change as its tag
abbrev pub new_row : Change → FileNumbers → NewFile → Extent → FileRow
new_row change numbers new extent = record {
  file = numbers.file;
  object = numbers.object;
  name = new.name;
  media = new.media;
  size = extent.size;
  tag = change.view.now.next.change;
  deposited = change.view.now.clock;
  behalf = new.behalf;
  by_reference = is_reference new.source;
  sha256 = extent.digests.sha256;
}

-- the size and the digests are those of these bytes
abbrev pub IsExtent : Extent → (bytes : List ℕ) → Type 0
IsExtent extent bytes = (extent.size ≡ length bytes) × (extent.digests ≡ digests_of bytes)

-- the rows of new files that an object has alone, in their order
abbrev pub new_rows : State → (content : List ℕ) → (n : ℕ) → List NewFile → List FileRow
new_rows s content n new =
    each (λ e. file_row n e.0 e.1) (map.entries (files_added s content new map.empty))
