use Rattle.std.proofs.Common.{◌≡◌, ◌∙◌, ℕ, List, [], ◌∷◌, map, refl, ap, arith, subst}
use Rattle.serde_json.specs.Data.{Data}
use Rattle.dep_types.specs.MetadataEntries.{name_and_texts}
use Rattle.dep_types.specs.declared.metadata.MetadataEntry.{MetadataEntry}
use Rattle.dep_docs_out.specs.Json.{AddsMembers}
use Rattle.dep_docs_out.specs.Documents.{texts_data}
use Rattle.dep_docs_out.proofs.Loops.{member_next, members_all}
use Rattle.dep_docs_out.proofs.metadata.add_metadata.Goals as goal

member_of : MetadataEntry → List ℕ × Data
member_of e = (e.name, texts_data e.texts)

members_of-pairs : (es : List MetadataEntry) → map member_of es ≡ map (λ p. (p.0, texts_data p.1)) (map name_and_texts es)
unfolding member_of
members_of-pairs [] = refl
members_of-pairs (e ∷ es) = ap (λ ms. (e.name, texts_data e.texts) ∷ ms) (members_of-pairs es)

pub loop-entry-preserved : goal.loop-entry-preserved
unfolding member_of
loop-entry-preserved c =
    member_next member_of c.entries-entry-items.result.now c.loop-entry.entry-index c.entry-item.result (omega arith) c.entry-item.is c.loop-entry.invariant c.add_entry.ensures

pub returns : goal.returns
unfolding member_of
returns c =
    let all = members_all member_of c.entries-entry-items.result.now c.loop-entry.entry-index (omega arith) c.loop-entry.invariant in
    subst (λ (ms : List (List ℕ × Data)). AddsMembers c.args.document.now c.loop-entry.document ms)
    (members_of-pairs c.entries-entry-items.result.now ∙ ap (map (λ p. (p.0, texts_data p.1))) c.entries-entry-items.ensures) all
