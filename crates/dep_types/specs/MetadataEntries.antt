-- Metadata as the list of its entries.
use Rattle.std.specs.Prelude.{◌≡◌, ℕ, List, [], ◌∷◌, ◌++◌, map, T, Result, MatchResult, unwrap_or}
use Rattle.std.specs.declared.cmp.Ordering.TheVariants.{Less, Equal, Greater}
use Rattle.std.specs.Ordering.{nat_cmp}
use Rattle.std.specs.Cmp.Lexicographic.{slice_cmp}
use Rattle.std.specs.FinMap as finmap
use Rattle.std.specs.FinMap.Entries.{is_sorted}
use Rattle.std.specs.List.{HoldsAt}
use Rattle.std.specs.List.Sorted.{IsPartitionPoint}
use Rattle.dep_types.specs.State.{Texts}
use Rattle.dep_types.specs.declared.metadata.MetadataEntry.{MetadataEntry}

-- an entry as a pair, which orders entries by their names
abbrev pub name_and_texts : MetadataEntry → List ℕ × List (List ℕ)
name_and_texts e = (e.name, e.texts)

-- the names rise, so that none stands twice
abbrev pub AreInOrder : List MetadataEntry → Type 0
AreInOrder entries = T (is_sorted (slice_cmp nat_cmp) (map name_and_texts entries))

-- where a name stands, or where it would: behind the lesser names and before the greater ones
abbrev pub IsPlaceOf : List MetadataEntry → List ℕ → Result ℕ ℕ → Type 0
IsPlaceOf entries name place = MatchResult place
    (HoldsAt (λ e. slice_cmp nat_cmp e.name name ≡ Equal) entries)
    (IsPartitionPoint (λ e. slice_cmp nat_cmp e.name name ≡ Less)
    (λ e. slice_cmp nat_cmp e.name name ≡ Greater) entries)

-- under each name the new texts stand behind the old ones
unfoldable pub joined : (new : List (List ℕ × List (List ℕ))) → Texts → Texts
joined [] old = old
joined ((name, texts) ∷ more) old =
    joined more (finmap.insert old name (unwrap_or (finmap.get old name) [] ++ texts))
