-- What rows and views show of an object.
use Rattle.std.specs.Prelude.{ℕ, List, length, map}
use Rattle.std.specs.FinMap as finmap
use Rattle.sha2.specs.Sha256.{sha256}
use Rattle.sha2.specs.Sha512.{sha512}
use Rattle.dep_types.specs.Maps.{Numbered}
use Rattle.dep_types.specs.State.{Object, File, Upload}
use Rattle.dep_types.specs.declared.rows.ObjectRow.{ObjectRow}
use Rattle.dep_types.specs.declared.rows.FileRow.{FileRow}
use Rattle.dep_types.specs.declared.rows.ObjectView.{ObjectView}
use Rattle.dep_types.specs.declared.rows.UploadRow.{UploadRow}

-- the object of this number, without its metadata and files
abbrev pub object_row : ℕ → Object → ObjectRow
object_row n o = record {
  object = n;
  ingested = o.ingested;
  object_tag = o.tag;
  metadata_tag = o.metadata_tag;
  files_tag = o.files_tag;
  changed = o.changed;
}

-- the file of this object and number, with the SHA-256 of its bytes in their place
abbrev pub file_row : (n f : ℕ) → File → FileRow
file_row n f file = record {
  file = f;
  object = n;
  name = file.name;
  media = file.media;
  size = length file.content;
  tag = file.tag;
  deposited = file.deposited;
  behalf = file.behalf;
  by_reference = file.by_reference;
  sha256 = sha256 file.content;
}

-- the SHA-512 of each of these files, by ascending number
abbrev pub sha512s_of : Numbered File → List (List ℕ)
sha512s_of files = map (λ e. sha512 e.1.content) (finmap.entries files)

-- the object of this number, with its metadata and its files by ascending number
abbrev pub object_view : ℕ → Object → ObjectView
object_view n o = record {
  object = object_row n o;
  metadata = o.metadata;
  files = map (λ e. file_row n e.0 e.1) (finmap.entries o.files);
  sha512s = sha512s_of o.files;
}

-- the upload of this number, without its segments
abbrev pub upload_row : ℕ → Upload → UploadRow
upload_row n u = record {
  upload = n;
  size = u.size;
  count = u.count;
  segment_size = u.segment_size;
  sha256 = u.sha256;
  sha512 = u.sha512;
  last = u.last;
}
