use Rattle.std.proofs.Common.{rules, sym, ap, ◌∙◌, map as each, nat_cmp, Some, slice_index_or, ◌≡◌}
use Rattle.std.specs.Cmp.Lexicographic.{slice_cmp}
use Rattle.std.specs.FinMap as map
use Rattle.dep_types.specs.MetadataEntries.{name_and_texts}
use Rattle.dep_types.proofs.Metadatas.{find_at, find_none}
use Rattle.dep_types.proofs.metadata.Metadata.get.Goals as goal

pub returns-in-Ok : goal.returns-in-Ok
returns-in-Ok c =
    let is = rw c.deref.ensures.value at c.in-Ok.ensures.place in
    let below = rw c.deref.ensures.value at c.in-Ok.ensures.range in
    let e = c.index.result.now in
    let there : e ≡ slice_index_or c.self.inside.entries.items c.in-Ok.place e = search rules in
    ap (λ e. Some e.texts) there
    ∙ sym (find_at c.self.inside.entries.items c.in-Ok.place c.args.name.now e c.self.invariant below is)
    ∙ sym (map.get-from_sorted (slice_cmp nat_cmp) (each name_and_texts c.self.inside.entries.items) c.args.name.now c.self.invariant)
    ∙ ap (λ m. map.get m c.args.name.now) c.self.view_is

pub returns-in-Err : goal.returns-in-Err
returns-in-Err c =
    let is = rw c.deref.ensures.value at c.in-Err.ensures.place in
    sym (find_none c.self.inside.entries.items c.in-Err.field-0 c.args.name.now is.0 is.1)
    ∙ sym (map.get-from_sorted (slice_cmp nat_cmp) (each name_and_texts c.self.inside.entries.items) c.args.name.now c.self.invariant)
    ∙ ap (λ m. map.get m c.args.name.now) c.self.view_is
