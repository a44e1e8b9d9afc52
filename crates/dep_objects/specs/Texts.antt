-- Texts that are put in behind others, and texts that are gathered.
use Rattle.std.specs.Prelude.{◌≡◌, ℕ, List, map as map_each, Option, Some, None}
use Rattle.std.specs.List.{flat_map}
use Rattle.std.specs.FinMap as map
use Rattle.sqlite_value.specs.Order.{Row}
use Rattle.dep_types.specs.State.{State, Object, Texts}
use Rattle.dep_types.specs.MetadataEntries.{joined, name_and_texts}
use Rattle.dep_types.specs.declared.metadata.MetadataEntry.{MetadataEntry}
use Rattle.dep_tables.specs.Tables.{Tables}
use Rattle.dep_row_maps.specs.Owned.{placed, put_each}
use Rattle.dep_row_maps.specs.Stored.{text_rows, text_values}
use Rattle.dep_row_maps.specs.TablesAre.{with_metadata, with_object}
use Rattle.dep_objects.specs.declared.gathering.NamedTexts.{NamedTexts}

-- the rows of the texts of these names, name by name
abbrev pub entry_rows : ℕ → List MetadataEntry → List Row
entry_rows n es = flat_map (λ e. text_rows n e.0 e.1) (map_each name_and_texts es)

-- the tables with these rows of texts put in
abbrev pub with_texts : List Row → Tables → Tables
with_texts rows t = record t { metadata = put_each rows t.metadata }

-- the same of the texts of one name, from this place on
abbrev pub with_entry : (n start : ℕ) → MetadataEntry → Tables → Tables
with_entry n start e = with_texts (placed (text_values n e.name) start e.texts)

-- and of some names, each from the first place on
abbrev pub with_entries : ℕ → List MetadataEntry → Tables → Tables
with_entries n es = with_texts (entry_rows n es)

-- the metadata with the texts of the name that is gathered last
abbrev pub closed : Texts → Option NamedTexts → Texts
closed kept None = kept
closed kept (Some last) = map.insert kept last.name last.texts.items

-- the object with more texts behind those that it has
abbrev pub with_more_texts : Object → Texts → Object
with_more_texts o more = with_metadata o (joined (map.entries more) o.metadata)

-- where the object is there, the state with these metadata in it is so
abbrev pub SetsMetadata : (n : ℕ) → Texts → State → (becomes : State → Type 0) → Type 0
SetsMetadata n texts s becomes = (o : Object) → map.get s.objects n ≡ Some o
    → becomes (with_object s n (with_metadata o texts))

-- the same of texts that are put in behind those that it has
abbrev pub AppendsMetadata : (n : ℕ) → (more : Texts) → State → (becomes : State → Type 0) → Type 0
AppendsMetadata n more s becomes = (o : Object) → map.get s.objects n ≡ Some o
    → becomes (with_object s n (with_more_texts o more))
