-- The texts that make the tables and their first rows.
use Rattle.std.specs.Prelude.{ℕ, List, [], ◌∷◌, codes}

abbrev pub create_format_text : List ℕ
create_format_text = codes "CREATE TABLE format (id INTEGER PRIMARY KEY, version INTEGER NOT NULL) STRICT"

abbrev pub create_state_text : List ℕ
create_state_text = codes "CREATE TABLE state (id INTEGER PRIMARY KEY, clock INTEGER NOT NULL, next_object INTEGER NOT NULL, next_file INTEGER NOT NULL, next_upload INTEGER NOT NULL, next_change INTEGER NOT NULL) STRICT"

abbrev pub create_objects_text : List ℕ
create_objects_text = codes "CREATE TABLE objects (object INTEGER PRIMARY KEY, ingested INTEGER NOT NULL, object_tag INTEGER NOT NULL, metadata_tag INTEGER NOT NULL, files_tag INTEGER NOT NULL, changed INTEGER NOT NULL) STRICT"

abbrev pub create_metadata_text : List ℕ
create_metadata_text = codes "CREATE TABLE metadata (object INTEGER NOT NULL, name TEXT NOT NULL, place INTEGER NOT NULL, value TEXT NOT NULL, PRIMARY KEY (object, name, place)) STRICT"

abbrev pub create_files_text : List ℕ
create_files_text = codes "CREATE TABLE files (file INTEGER PRIMARY KEY, object INTEGER NOT NULL, name TEXT NOT NULL, media TEXT NOT NULL, size INTEGER NOT NULL, tag INTEGER NOT NULL, deposited INTEGER NOT NULL, behalf TEXT, by_reference INTEGER NOT NULL, sha256 BLOB NOT NULL) STRICT"

abbrev pub create_uploads_text : List ℕ
create_uploads_text = codes "CREATE TABLE uploads (upload INTEGER PRIMARY KEY, size INTEGER NOT NULL, count INTEGER NOT NULL, segment_size INTEGER NOT NULL, sha256 BLOB, last INTEGER NOT NULL) STRICT"

abbrev pub create_segments_text : List ℕ
create_segments_text = codes "CREATE TABLE segments (upload INTEGER NOT NULL, number INTEGER NOT NULL, size INTEGER NOT NULL, PRIMARY KEY (upload, number)) STRICT"

abbrev pub create_timed_out_text : List ℕ
create_timed_out_text = codes "CREATE TABLE timed_out (upload INTEGER PRIMARY KEY) STRICT"

abbrev pub create_blocks_text : List ℕ
create_blocks_text = codes "CREATE TABLE blocks (kind INTEGER NOT NULL, owner INTEGER NOT NULL, part INTEGER NOT NULL, place INTEGER NOT NULL, bytes BLOB NOT NULL, PRIMARY KEY (kind, owner, part, place)) STRICT"

abbrev pub create_sha512s_text : List ℕ
create_sha512s_text = codes "CREATE TABLE sha512s (kind INTEGER NOT NULL, owner INTEGER NOT NULL, value BLOB NOT NULL, PRIMARY KEY (kind, owner)) STRICT"

-- the texts that make the tables, in the order of their trees
abbrev pub create_texts : List (List ℕ)
create_texts =
    create_format_text ∷ create_state_text ∷ create_objects_text ∷ create_metadata_text ∷ create_files_text
    ∷ create_uploads_text ∷ create_segments_text ∷ create_timed_out_text ∷ create_blocks_text
    ∷ create_sha512s_text ∷ []

abbrev pub index_files_text : List ℕ
index_files_text = codes "CREATE INDEX files_of_object ON files (object, file)"

abbrev pub index_uploads_text : List ℕ
index_uploads_text = codes "CREATE INDEX uploads_by_last ON uploads (last, upload)"

abbrev pub add_format_text : List ℕ
add_format_text = codes "INSERT INTO format (id, version) VALUES (1, 2)"

abbrev pub add_state_text : List ℕ
add_state_text = codes "INSERT INTO state (id, clock, next_object, next_file, next_upload, next_change) VALUES (1, 0, 1, 1, 1, 1)"
