use Rattle.std.proofs.Common.{◌≡◌, sym, ap, ◌∙◌, map as each, nat_cmp}
use Rattle.std.specs.Cmp.Lexicographic.{slice_cmp}
use Rattle.std.specs.FinMap.Entries.{put}
use Rattle.std.specs.FinMap as map
use Rattle.dep_types.specs.MetadataEntries.{name_and_texts}
use Rattle.dep_types.proofs.Metadatas.{put_at, put_between, in_order, inserted}
use Rattle.dep_types.proofs.metadata.Metadata.insert.Goals as goal

-- the entries with a new one
added : (c : goal.In_ok-insert-in-Err) → put (slice_cmp nat_cmp) c.args.name c.args.texts (each name_and_texts c.self.inside.entries.items)
    ≡ each name_and_texts c.insert.new.self.items
added c =
    let is = rw (c.as_str.ensures, c.deref.ensures.value) at c.in-Err.ensures.place in
    let within = rw c.deref.ensures.value at c.in-Err.ensures.range in
    put_between c.self.inside.entries.items c.in-Err.place (record { name = c.args.name; texts = c.args.texts }) within is.0 is.1
    ∙ ap (each name_and_texts) (sym c.in_ok-insert-in-Err.ensures.items)

pub invariant_of-self : goal.invariant_of-self
invariant_of-self c =
    let is = rw (c.as_str.ensures, c.deref.ensures.value) at c.in-Ok.ensures.place in
    let below = rw c.deref.ensures.value at c.in-Ok.ensures.range in
    let replaced = put_at c.self.inside.entries.items c.in-Ok.place (record { name = c.args.name; texts = c.args.texts }) c.self.invariant below is in
    in_order c.self.inside.entries.items _ c.args.name c.args.texts c.self.invariant replaced

pub invariant_of-self-in-Continue-1 : goal.invariant_of-self-in-Continue-1
invariant_of-self-in-Continue-1 c = in_order c.self.inside.entries.items c.insert.new.self.items c.args.name c.args.texts c.self.invariant (added c)

pub returns-in-Ok-clause-ok : goal.returns-in-Ok-clause-ok
returns-in-Ok-clause-ok c =
    let is = rw (c.as_str.ensures, c.deref.ensures.value) at c.in-Ok.ensures.place in
    let below = rw c.deref.ensures.value at c.in-Ok.ensures.range in
    let replaced = put_at c.self.inside.entries.items c.in-Ok.place (record { name = c.args.name; texts = c.args.texts }) c.self.invariant below is in
    inserted c.self.inside.entries.items _ c.args.name c.args.texts c.self.invariant replaced
    ∙ ap (λ m. map.insert m c.args.name c.args.texts) c.self.view_is

pub returns-in_ok-insert-in-Err-clause-ok : goal.returns-in_ok-insert-in-Err-clause-ok
returns-in_ok-insert-in-Err-clause-ok c =
    inserted c.self.inside.entries.items c.insert.new.self.items c.args.name c.args.texts c.self.invariant (added c)
    ∙ ap (λ m. map.insert m c.args.name c.args.texts) c.self.view_is
