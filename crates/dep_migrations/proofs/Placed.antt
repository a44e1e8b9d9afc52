-- Where our tables and their indexes stand beside the tables of others.
use Rattle.std.proofs.Common.{◌≡◌, ℕ, ◌+◌, List, [], ◌∷◌, ◌++◌, length, slice_get, Some, false, codes, sym, ap, subst, ◌∙◌, arith, append-nil, append_assoc}
use Rattle.std.specs.List.{position_from}
use Rattle.sqlite.specs.Schema.{Schema}
use Rattle.sqlite.specs.Table.{Table}
use Rattle.sqlite.specs.Tree.{Trees}
use Rattle.sqlite.specs.Effect.{Database, IsDatabase}
use Rattle.sqlite_schema.specs.Names.{table_named, same_name}
use Rattle.sqlite_catalog.specs.Change.{created, indexed, next_tree, is_used, KeepsRows}
use Rattle.sqlite_catalog.proofs.StepLemmas.{no_table}
use Rattle.dep_tables.specs.Adding.{AreFreeFor, created_all}
use Rattle.dep_tables.specs.Indexes.{Indexes}
use Rattle.dep_tables.proofs.Adding.{placed_after, got_after, next_created}
use Rattle.dep_tables.specs.Schema.{our_tables, format_table, state_table, objects_table, metadata_table, files_table, uploads_table, segments_table, timed_out_table, blocks_table, files_index, uploads_index}
use Rattle.dep_migrations.specs.Beside.{with_tables, with_files_index, with_ours, AddsIndexes}

pub keeps_then : (tables : List Table) (a b c : Trees) → KeepsRows tables a b → KeepsRows tables b c → KeepsRows tables a c
keeps_then [] a b c p q = tt
keeps_then (t ∷ tables) a b c p q = (q.0 ∙ p.0, keeps_then tables a b c p.1 q.1)

-- as they are listed behind those of a schema
abbrev pub listed_for : List Table → Schema → List Table
listed_for [] schema = []
listed_for (t ∷ tables) schema = record t { tree = next_tree schema } ∷ listed_for tables (created schema t)

all_listed : (tables : List Table) (schema : Schema) → (created_all tables schema).tables ≡ schema.tables ++ listed_for tables schema
all_listed [] schema = sym (append-nil schema.tables)
all_listed (t ∷ tables) schema = all_listed tables (created schema t) ∙ append_assoc schema.tables (record t { tree = next_tree schema } ∷ []) (listed_for tables (created schema t))

module _ (schema : Schema) where
  abbrev pub with_format : Schema
  with_format = created schema format_table

  abbrev pub with_state : Schema
  with_state = created with_format state_table

  abbrev pub with_objects : Schema
  with_objects = created with_state objects_table

  abbrev pub with_metadata : Schema
  with_metadata = created with_objects metadata_table

  abbrev pub with_files : Schema
  with_files = created with_metadata files_table

  abbrev pub with_uploads : Schema
  with_uploads = created with_files uploads_table

  abbrev pub with_segments : Schema
  with_segments = created with_uploads segments_table

  abbrev pub with_timed_out : Schema
  with_timed_out = created with_segments timed_out_table

  abbrev pub with_blocks : Schema
  with_blocks = created with_timed_out blocks_table

  abbrev pub ours : List Table
  ours = listed_for our_tables schema

  pub tables_are : (with_tables schema).tables ≡ schema.tables ++ ours
  tables_are = all_listed our_tables schema

  pub state_tree : next_tree with_format ≡ next_tree schema + 1
  state_tree = next_created schema format_table

  pub objects_tree : next_tree with_state ≡ next_tree schema + 2
  objects_tree = omega (arith, next_created with_format state_table, state_tree)

  pub metadata_tree : next_tree with_objects ≡ next_tree schema + 3
  metadata_tree = omega (arith, next_created with_state objects_table, objects_tree)

  pub files_tree : next_tree with_metadata ≡ next_tree schema + 5
  files_tree = omega (arith, next_created with_objects metadata_table, metadata_tree)

  pub uploads_tree : next_tree with_files ≡ next_tree schema + 6
  uploads_tree = omega (arith, next_created with_metadata files_table, files_tree)

  pub segments_tree : next_tree with_uploads ≡ next_tree schema + 7
  segments_tree = omega (arith, next_created with_files uploads_table, uploads_tree)

  pub timed_out_tree : next_tree with_segments ≡ next_tree schema + 9
  timed_out_tree = omega (arith, next_created with_uploads segments_table, segments_tree)

  pub blocks_tree : next_tree with_timed_out ≡ next_tree schema + 10
  blocks_tree = omega (arith, next_created with_segments timed_out_table, timed_out_tree)

  pub sha512s_tree : next_tree with_blocks ≡ next_tree schema + 12
  sha512s_tree = omega (arith, next_created with_timed_out blocks_table, blocks_tree)

  module _ (free : AreFreeFor our_tables schema) where
    -- a name that is none of before stands where it does among ours
    named : (name : List ℕ) (at : ℕ) → is_used schema name ≡ false → position_from (λ t. same_name t.name name) (0 + length schema.tables) ours ≡ Some at
        → table_named (with_tables schema) name ≡ Some at
    named name at free is =
        ap (position_from (λ t. same_name t.name name) 0) tables_are ∙ placed_after (λ t. same_name t.name name) 0 schema.tables ours (no_table schema name free) ∙ is

    pub format_named : table_named (with_tables schema) (codes "format") ≡ Some (length schema.tables + 0)
    unfolding same_name
    format_named = named (codes "format") _ free.0 (ap Some (omega arith))

    pub state_named : table_named (with_tables schema) (codes "state") ≡ Some (length schema.tables + 1)
    unfolding same_name
    state_named = named (codes "state") _ free.1.0 (ap Some (omega arith))

    pub files_named : table_named (with_tables schema) (codes "files") ≡ Some (length schema.tables + 4)
    unfolding same_name
    files_named = named (codes "files") _ free.1.1.1.1.0 (ap Some (omega arith))

    pub uploads_named : table_named (with_tables schema) (codes "uploads") ≡ Some (length schema.tables + 5)
    unfolding same_name
    uploads_named = named (codes "uploads") _ free.1.1.1.1.1.0 (ap Some (omega arith))

    pub format_listed : slice_get (with_tables schema).tables (length schema.tables + 0) ≡ Some (record format_table { tree = next_tree schema })
    format_listed = ap (λ xs. slice_get xs (length schema.tables + 0)) tables_are ∙ got_after schema.tables ours 0

    pub state_listed : slice_get (with_tables schema).tables (length schema.tables + 1) ≡ Some (record state_table { tree = next_tree with_format })
    state_listed = ap (λ xs. slice_get xs (length schema.tables + 1)) tables_are ∙ got_after schema.tables ours 1

    files_listed : slice_get (with_tables schema).tables (length schema.tables + 4) ≡ Some (record files_table { tree = next_tree schema + 5 })
    files_listed = ap (λ xs. slice_get xs (length schema.tables + 4)) tables_are ∙ got_after schema.tables ours 4 ∙ ap (λ k. Some (record files_table { tree = k })) files_tree

    uploads_listed : slice_get (with_tables schema).tables (length schema.tables + 5) ≡ Some (record uploads_table { tree = next_tree schema + 6 })
    uploads_listed = ap (λ xs. slice_get xs (length schema.tables + 5)) tables_are ∙ got_after schema.tables ours 5 ∙ ap (λ k. Some (record uploads_table { tree = k })) uploads_tree

    -- the indexes behind our tables
    module _ (mid new : Database) (here : mid.schema ≡ with_tables schema) (added : AddsIndexes mid new) where
      abbrev files_one : Table
      files_one = record files_table { tree = next_tree schema + 5 }

      abbrev uploads_one : Table
      uploads_one = record uploads_table { tree = next_tree schema + 6 }

      first : Indexes files_one files_index mid added.0
      first = added.1.made (length schema.tables + 4) (next_tree schema + 5) (subst (λ s. table_named s (codes "files") ≡ Some (length schema.tables + 4)) (sym here) files_named)
          (subst (λ (s : Schema). slice_get s.tables (length schema.tables + 4) ≡ Some files_one) (sym here) files_listed)

      first_schema : added.0.schema ≡ with_files_index schema
      first_schema = first.schema ∙ ap (λ s. indexed s files_one files_index) here

      second : Indexes uploads_one uploads_index added.0 new
      second = added.2.made (length schema.tables + 5) (next_tree schema + 6) (subst (λ s. table_named s (codes "uploads") ≡ Some (length schema.tables + 5)) (sym first_schema) uploads_named)
          (subst (λ (s : Schema). slice_get s.tables (length schema.tables + 5) ≡ Some uploads_one) (sym first_schema) uploads_listed)

      pub indexed_schema : new.schema ≡ with_ours schema
      indexed_schema = second.schema ∙ ap (λ s. indexed s uploads_one uploads_index) first_schema

      pub indexed_sound : IsDatabase new
      indexed_sound = second.sound

      pub indexed_rows : KeepsRows (with_tables schema).tables mid.trees new.trees
      indexed_rows = keeps_then (with_tables schema).tables mid.trees added.0.trees new.trees (subst (λ (s : Schema). KeepsRows s.tables mid.trees added.0.trees) here first.others)
          (subst (λ (s : Schema). KeepsRows s.tables added.0.trees new.trees) first_schema second.others)

-- where both were added, their names were free before
pub free_indexes : (old new : Database) → AddsIndexes old new → (is_used old.schema files_index.name ≡ false) × (is_used old.schema uploads_index.name ≡ false)
free_indexes old new added = (added.1.free, added.1.keeps uploads_index.name added.2.free)
