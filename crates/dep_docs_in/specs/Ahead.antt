-- How far a document of references was read.
use Rattle.std.specs.Prelude.{◌≡◌, ℕ, zero, suc, List, [], ◌∷◌, ◌++◌, length, Option, Some, None, option_map}
use Rattle.serde_json.specs.Data.{Items, no_items, item}
use Rattle.serde_json.specs.View.{view}
use Rattle.dep_types.specs.Maps.{◌>>=◌}
use Rattle.dep_docs_in.specs.Documents.{each_read, entries_of, reference_in, references_read}
use Rattle.dep_docs_in.specs.declared.ahead.ReadEntries.{ReadEntries}
use Rattle.dep_docs_in.specs.declared.ahead.ReadEntries.TheVariants.{Part, Whole, Malformed, Lent}
use Rattle.dep_docs_in.specs.declared.reference.Reference.{Reference}

-- what is read, behind what was read before
abbrev pub with_front : {X : Type 0} → List X → Option (List X) → Option (List X)
with_front front read = option_map (λ xs. front ++ xs) read

-- the items behind the first so many
unfoldable pub items_behind : ℕ → Items → Items
items_behind zero ds = ds
items_behind (suc n) no_items = no_items
items_behind (suc n) (item d ds) = items_behind n ds

-- what these references and the entries behind as many say together
abbrev pub read_behind : (base : List ℕ) → List Reference → Items → Option (List Reference)
read_behind base front ds =
    with_front front (each_read (reference_in base) (items_behind (length front) ds))

-- what was read of a content is what it says
abbrev pub IsReading : (base content : List ℕ) → ReadEntries → Type 0
IsReading base content (Part document references) =
    references_read base content ≡ (entries_of (view document) >>= read_behind base references.items)
IsReading base content (Whole references) = references_read base content ≡ Some references
IsReading base content Malformed = references_read base content ≡ None
IsReading base content Lent = Unit {0}
