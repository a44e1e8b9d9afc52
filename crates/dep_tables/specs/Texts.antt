-- The text of each statement.
use Rattle.std.specs.Prelude.{ℕ, List, codes}

-- the text that sets the version of the tables to ours
abbrev pub write_version_text : List ℕ
write_version_text = codes "UPDATE format SET version = 2 WHERE id = 1"

-- the text that asks for the clock and the next numbers
abbrev pub read_state_text : List ℕ
read_state_text = codes "SELECT clock, next_object, next_file, next_upload, next_change FROM state WHERE id = 1"

-- the text that writes the clock and the next numbers
abbrev pub write_state_text : List ℕ
write_state_text = codes "UPDATE state SET clock = ?1, next_object = ?2, next_file = ?3, next_upload = ?4, next_change = ?5 WHERE id = 1"

-- the text that inserts the row of a new object
abbrev pub insert_object_text : List ℕ
insert_object_text = codes "INSERT INTO objects (object, ingested, object_tag, metadata_tag, files_tag, changed) VALUES (?1, ?2, ?3, ?4, ?5, ?6)"

-- the text that writes the row of an object that is there
abbrev pub write_object_text : List ℕ
write_object_text = codes "UPDATE objects SET ingested = ?2, object_tag = ?3, metadata_tag = ?4, files_tag = ?5, changed = ?6 WHERE object = ?1"

-- the text that deletes the row of an object
abbrev pub delete_object_text : List ℕ
delete_object_text = codes "DELETE FROM objects WHERE object = ?1"

-- the text that asks for the row of an object by its number
abbrev pub find_object_text : List ℕ
find_object_text = codes "SELECT object, ingested, object_tag, metadata_tag, files_tag, changed FROM objects WHERE object = ?1"

-- the text that asks for the first object behind a number
abbrev pub next_object_text : List ℕ
next_object_text = codes "SELECT object FROM objects WHERE object > ?1 ORDER BY object LIMIT 1"

-- the text that inserts one value of a name of an object's metadata
abbrev pub insert_metadata_text : List ℕ
insert_metadata_text = codes "INSERT INTO metadata (object, name, place, value) VALUES (?1, ?2, ?3, ?4)"

-- the text that deletes all metadata of an object
abbrev pub delete_metadata_text : List ℕ
delete_metadata_text = codes "DELETE FROM metadata WHERE object = ?1"

-- the text that asks for the metadata of an object, by name and place
abbrev pub metadata_of_text : List ℕ
metadata_of_text = codes "SELECT object, name, place, value FROM metadata WHERE object = ?1 ORDER BY name, place"

-- the text that asks for the place of the last text of a name of an object
abbrev pub last_text_text : List ℕ
last_text_text = codes "SELECT place FROM metadata WHERE object = ?1 AND name = ?2 ORDER BY place DESC LIMIT 1"

-- the text that asks for the next texts of a name of an object, from a place on
abbrev pub texts_from_text : List ℕ
texts_from_text = codes "SELECT object, name, place, value FROM metadata WHERE object = ?1 AND name = ?2 AND place >= ?3 ORDER BY name, place LIMIT 512"

-- the text that asks for the first texts of an object's names above one
abbrev pub texts_from_name_text : List ℕ
texts_from_name_text = codes "SELECT object, name, place, value FROM metadata WHERE object = ?1 AND name >= ?2 ORDER BY name, place LIMIT 512"

-- the text that inserts the row of a new file
abbrev pub insert_file_text : List ℕ
insert_file_text = codes "INSERT INTO files (file, object, name, media, size, tag, deposited, behalf, by_reference, sha256) VALUES (?1, ?2, ?3, ?4, ?5, ?6, ?7, ?8, ?9, ?10)"

-- the text that deletes the row of one file
abbrev pub delete_file_text : List ℕ
delete_file_text = codes "DELETE FROM files WHERE file = ?1"

-- the text that deletes the rows of all files of an object
abbrev pub delete_files_text : List ℕ
delete_files_text = codes "DELETE FROM files WHERE object = ?1"

-- the text that asks for the row of a file by its number
abbrev pub find_file_text : List ℕ
find_file_text = codes "SELECT file, object, name, media, size, tag, deposited, behalf, by_reference, sha256 FROM files WHERE file = ?1"

-- the text that asks for the SHA-256 of each file of an object, by number
abbrev pub sha256s_of_text : List ℕ
sha256s_of_text = codes "SELECT file, sha256 FROM files WHERE object = ?1 ORDER BY file"

-- the text that asks for the rows of the files of an object from a number on, by number
abbrev pub files_of_text : List ℕ
files_of_text = codes "SELECT file, object, name, media, size, tag, deposited, behalf, by_reference, sha256 FROM files WHERE object = ?1 AND file >= ?2 ORDER BY file"

-- the text that asks for the first of them
abbrev pub files_page_text : List ℕ
files_page_text = codes "SELECT file, object, name, media, size, tag, deposited, behalf, by_reference, sha256 FROM files WHERE object = ?1 AND file >= ?2 ORDER BY file LIMIT 512"

-- the text that inserts the row of a new upload
abbrev pub insert_upload_text : List ℕ
insert_upload_text = codes "INSERT INTO uploads (upload, size, count, segment_size, sha256, last) VALUES (?1, ?2, ?3, ?4, ?5, ?6)"

-- the text that writes the row of an upload that is there
abbrev pub write_upload_text : List ℕ
write_upload_text = codes "UPDATE uploads SET size = ?2, count = ?3, segment_size = ?4, sha256 = ?5, last = ?6 WHERE upload = ?1"

-- the text that deletes the row of an upload
abbrev pub delete_upload_text : List ℕ
delete_upload_text = codes "DELETE FROM uploads WHERE upload = ?1"

-- the text that asks for the row of an upload by its number
abbrev pub find_upload_text : List ℕ
find_upload_text = codes "SELECT upload, size, count, segment_size, sha256, last FROM uploads WHERE upload = ?1"

-- the text that asks for the number of the next upload
abbrev pub next_upload_text : List ℕ
next_upload_text = codes "SELECT upload FROM uploads WHERE upload > ?1 ORDER BY upload LIMIT 1"

-- the text that asks for the upload that was left the longest, of those left before a moment
abbrev pub left_before_text : List ℕ
left_before_text = codes "SELECT upload, last FROM uploads WHERE last < ?1 ORDER BY last, upload LIMIT 1"

-- the text that inserts the row of a segment, which has its size and not its bytes
abbrev pub insert_segment_text : List ℕ
insert_segment_text = codes "INSERT INTO segments (upload, number, size) VALUES (?1, ?2, ?3)"

-- the text that deletes the rows of all segments of an upload
abbrev pub delete_segments_text : List ℕ
delete_segments_text = codes "DELETE FROM segments WHERE upload = ?1"

-- the text that asks for the rows of the segments of an upload, by number
abbrev pub segments_of_text : List ℕ
segments_of_text = codes "SELECT upload, number, size FROM segments WHERE upload = ?1 ORDER BY number"

-- the text that inserts the number of an upload that timed out
abbrev pub insert_timed_out_text : List ℕ
insert_timed_out_text = codes "INSERT INTO timed_out (upload) VALUES (?1)"

-- the text that asks whether the upload of a number timed out
abbrev pub find_timed_out_text : List ℕ
find_timed_out_text = codes "SELECT upload FROM timed_out WHERE upload = ?1"

-- the text that inserts a block of the bytes of a file or an upload
abbrev pub insert_block_text : List ℕ
insert_block_text = codes "INSERT INTO blocks (kind, owner, part, place, bytes) VALUES (?1, ?2, ?3, ?4, ?5)"

-- the text that asks for the bytes of one block
abbrev pub read_block_text : List ℕ
read_block_text = codes "SELECT bytes FROM blocks WHERE kind = ?1 AND owner = ?2 AND part = ?3 AND place = ?4"

-- the text that asks for all blocks of an owner, by part and place
abbrev pub blocks_of_text : List ℕ
blocks_of_text = codes "SELECT part, place, bytes FROM blocks WHERE kind = ?1 AND owner = ?2 ORDER BY part, place"

-- the text that deletes all blocks of an owner
abbrev pub delete_blocks_text : List ℕ
delete_blocks_text = codes "DELETE FROM blocks WHERE kind = ?1 AND owner = ?2"

-- the text that gives all blocks of an owner to another
abbrev pub move_blocks_text : List ℕ
move_blocks_text = codes "UPDATE blocks SET kind = ?3, owner = ?4 WHERE kind = ?1 AND owner = ?2"

-- the text that asks for the place of the first block of an owner
abbrev pub first_block_text : List ℕ
first_block_text = codes "SELECT part, place FROM blocks WHERE kind = ?1 AND owner = ?2 ORDER BY part, place LIMIT 1"

-- the text that asks for the place of the last block of a part
abbrev pub last_block_text : List ℕ
last_block_text = codes "SELECT place FROM blocks WHERE kind = ?1 AND owner = ?2 AND part = ?3 ORDER BY place DESC LIMIT 1"

-- the text that deletes the blocks of one part that stand before a place
abbrev pub delete_run_text : List ℕ
delete_run_text = codes "DELETE FROM blocks WHERE kind = ?1 AND owner = ?2 AND part = ?3 AND place < ?4"

-- the text that gives the blocks of one part that stand before a place to another owner
abbrev pub move_run_text : List ℕ
move_run_text = codes "UPDATE blocks SET kind = ?5, owner = ?6 WHERE kind = ?1 AND owner = ?2 AND part = ?3 AND place < ?4"

-- the text that inserts the SHA-512 of a file, or that which was promised of an upload
abbrev pub insert_sha512_text : List ℕ
insert_sha512_text = codes "INSERT INTO sha512s (kind, owner, value) VALUES (?1, ?2, ?3)"

-- the text that asks for the SHA-512 of an owner
abbrev pub find_sha512_text : List ℕ
find_sha512_text = codes "SELECT value FROM sha512s WHERE kind = ?1 AND owner = ?2"

-- the text that deletes the SHA-512 of an owner
abbrev pub delete_sha512_text : List ℕ
delete_sha512_text = codes "DELETE FROM sha512s WHERE kind = ?1 AND owner = ?2"
