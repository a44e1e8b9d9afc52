-- The tables of the store, as the schema that their texts define.
use Rattle.std.specs.Prelude.{true, false, List, [], ◌∷◌, codes}
use Rattle.sqlite.specs.Table.{Table}
use Rattle.sqlite.specs.Schema.{Schema}
use Rattle.sqlite_schema.specs.declared.schema.Index.{Index}
use Rattle.sqlite.specs.Kind.TheVariants.{Integer, Text, Blob}
use Rattle.dep_tables.specs.PlainTables.{column_of, keyed_table, indexed_table, index_of, plain_index}

-- the version of the tables, in one row
abbrev pub format_table : Table
format_table = keyed_table (codes "format") 0
    (column_of (codes "id") Integer false
    ∷ column_of (codes "version") Integer true ∷ [])

-- the clock and the next numbers, in one row
abbrev pub state_table : Table
state_table = keyed_table (codes "state") 1
    (column_of (codes "id") Integer false
    ∷ column_of (codes "clock") Integer true
    ∷ column_of (codes "next_object") Integer true
    ∷ column_of (codes "next_file") Integer true
    ∷ column_of (codes "next_upload") Integer true
    ∷ column_of (codes "next_change") Integer true ∷ [])

-- objects, without their metadata and files
abbrev pub objects_table : Table
objects_table = keyed_table (codes "objects") 2
    (column_of (codes "object") Integer false
    ∷ column_of (codes "ingested") Integer true
    ∷ column_of (codes "object_tag") Integer true
    ∷ column_of (codes "metadata_tag") Integer true
    ∷ column_of (codes "files_tag") Integer true
    ∷ column_of (codes "changed") Integer true ∷ [])

-- its key is the object, the name and the place, in an index of its own, which has the next tree
abbrev pub metadata_table : Table
metadata_table = indexed_table (codes "metadata") 3 (1 ∷ 2 ∷ 3 ∷ [])
    (column_of (codes "object") Integer true
    ∷ column_of (codes "name") Text true
    ∷ column_of (codes "place") Integer true
    ∷ column_of (codes "value") Text true ∷ [])

-- files, without their bytes and their SHA-512
abbrev pub files_table : Table
files_table = keyed_table (codes "files") 5
    (column_of (codes "file") Integer false
    ∷ column_of (codes "object") Integer true
    ∷ column_of (codes "name") Text true
    ∷ column_of (codes "media") Text true
    ∷ column_of (codes "size") Integer true
    ∷ column_of (codes "tag") Integer true
    ∷ column_of (codes "deposited") Integer true
    ∷ column_of (codes "behalf") Text false
    ∷ column_of (codes "by_reference") Integer true
    ∷ column_of (codes "sha256") Blob true ∷ [])

-- staged uploads, without their segments
abbrev pub uploads_table : Table
uploads_table = keyed_table (codes "uploads") 6
    (column_of (codes "upload") Integer false
    ∷ column_of (codes "size") Integer true
    ∷ column_of (codes "count") Integer true
    ∷ column_of (codes "segment_size") Integer true
    ∷ column_of (codes "sha256") Blob false
    ∷ column_of (codes "last") Integer true ∷ [])

-- its key is the upload and the number
abbrev pub segments_table : Table
segments_table = indexed_table (codes "segments") 7 (1 ∷ 2 ∷ [])
    (column_of (codes "upload") Integer true
    ∷ column_of (codes "number") Integer true
    ∷ column_of (codes "size") Integer true ∷ [])

-- the numbers of uploads that timed out
abbrev pub timed_out_table : Table
timed_out_table = keyed_table (codes "timed_out") 9 (column_of (codes "upload") Integer false ∷ [])

-- its key is the kind of the owner, the owner, the part and the place
abbrev pub blocks_table : Table
blocks_table = indexed_table (codes "blocks") 10 (1 ∷ 2 ∷ 3 ∷ 4 ∷ [])
    (column_of (codes "kind") Integer true
    ∷ column_of (codes "owner") Integer true
    ∷ column_of (codes "part") Integer true
    ∷ column_of (codes "place") Integer true
    ∷ column_of (codes "bytes") Blob true ∷ [])

-- its key is the kind of the owner and the owner
abbrev pub sha512s_table : Table
sha512s_table = indexed_table (codes "sha512s") 12 (1 ∷ 2 ∷ [])
    (column_of (codes "kind") Integer true
    ∷ column_of (codes "owner") Integer true
    ∷ column_of (codes "value") Blob true ∷ [])

-- the tables of version 1
abbrev pub older_tables : List Table
older_tables =
    format_table ∷ state_table ∷ objects_table ∷ metadata_table ∷ files_table ∷ uploads_table
    ∷ segments_table ∷ timed_out_table ∷ blocks_table ∷ []

-- The numbers of the trees follow the order of creation, so a table of a later version comes last.
abbrev pub our_tables : List Table
our_tables =
    format_table ∷ state_table ∷ objects_table ∷ metadata_table ∷ files_table ∷ uploads_table
    ∷ segments_table ∷ timed_out_table ∷ blocks_table ∷ sha512s_table ∷ []

-- the schema of version 1, which has no index but those of the keys
abbrev pub older_schema : Schema
older_schema = record {
  tables = older_tables;
  indexes = index_of (codes "sqlite_autoindex_metadata_1") 4 3 (1 ∷ 2 ∷ 3 ∷ [])
      ∷ index_of (codes "sqlite_autoindex_segments_1") 8 7 (1 ∷ 2 ∷ [])
      ∷ index_of (codes "sqlite_autoindex_blocks_1") 11 10 (1 ∷ 2 ∷ 3 ∷ 4 ∷ []) ∷ [];
  views = [];
}

-- by which the files of an object are found
abbrev pub files_index : Index
files_index = plain_index (codes "files_of_object") 14 5 (2 ∷ 0 ∷ [])

-- by which the upload is found that was left the longest
abbrev pub uploads_index : Index
uploads_index = plain_index (codes "uploads_by_last") 15 6 (6 ∷ 0 ∷ [])

-- the schema of version 2, with the indexes of the keys and two more
abbrev pub our_schema : Schema
our_schema = record {
  tables = our_tables;
  indexes = index_of (codes "sqlite_autoindex_metadata_1") 4 3 (1 ∷ 2 ∷ 3 ∷ [])
      ∷ index_of (codes "sqlite_autoindex_segments_1") 8 7 (1 ∷ 2 ∷ [])
      ∷ index_of (codes "sqlite_autoindex_blocks_1") 11 10 (1 ∷ 2 ∷ 3 ∷ 4 ∷ [])
      ∷ index_of (codes "sqlite_autoindex_sha512s_1") 13 12 (1 ∷ 2 ∷ [])
      ∷ files_index ∷ uploads_index ∷ [];
  views = [];
}
