-- The texts of an object that are read before a request needs them.
use Rattle.std.specs.Prelude.{◌≡◌, ℕ, ◌+◌, Option, Some, None, true, false, Bool, List, [], ◌++◌, filter, map as each, IfSome}
use Rattle.std.specs.Ordering.{is_lt}
use Rattle.sqlite_value.specs.Order.{Row}
use Rattle.dep_types.specs.State.{State, Texts}
use Rattle.dep_tables.specs.Rows.{by_name_and_place, metadata_values}
use Rattle.dep_tables.specs.declared.metadata.MetadataRow.{MetadataRow}
use Rattle.dep_row_maps.specs.Stored.{grouped, listed, metadata_rows, pair_seen, text_values}
use Rattle.dep_files.specs.Held.{IsReadPart}
use Rattle.dep_objects.specs.Texts.{closed}
use Rattle.dep_objects.specs.declared.ahead.TextsPage.{TextsPage}
use Rattle.dep_objects.specs.declared.ahead.ReadTexts.{ReadTexts}
use Rattle.dep_objects.specs.declared.ahead.TextKey.{TextKey}
use Rattle.dep_objects.specs.declared.ahead.TextsAhead.{TextsAhead}

-- the row's text stands before this name and place
abbrev pub is_before : TextKey → Row → Bool
is_before key row = is_lt (by_name_and_place row (text_values 0 key.name key.place []))

-- those of these rows that stand before a key, and all where there is none
abbrev pub rows_before : Option TextKey → List Row → List Row
rows_before (Some key) rows = filter (is_before key) rows
rows_before None rows = rows

-- the next place of the row's name
abbrev pub key_after : MetadataRow → TextKey
key_after row = record { name = row.name; place = row.place + 1 }

-- of these rows the page has all from a key on, up to the next one
abbrev pub IsPage : List Row → TextKey → TextsPage → Type 0
IsPage all from page =
    rows_before page.next all ≡ rows_before (Some from) all ++ each metadata_values page.rows.items

-- of these texts of an object they are the ones before its next key, or all of them
pub record AreTextsSoFar (n : ℕ) (m : Texts) (read : ReadTexts) : Type 0 where
  pub part : read.is_whole ≡ false → closed read.metadata read.last
      ≡ grouped (each pair_seen (rows_before (Some read.next) (metadata_rows n m)))
  pub whole : read.is_whole ≡ true → read.metadata ≡ grouped (listed m)

-- of each state the texts that were read are its own
abbrev pub AreReadAhead : State → TextsAhead → Type 0
AreReadAhead s ahead =
    IfSome ahead.held.read (IsReadPart (λ n o read. AreTextsSoFar n o.metadata read) s)

-- what a call leaves of them that reads more
abbrev pub KeepsRead : State → (before now : TextsAhead) → Type 0
KeepsRead s before now = AreReadAhead s before → AreReadAhead s now
