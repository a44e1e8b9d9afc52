use Rattle.std.proofs.Common.{◌∙◌, Some, ap, sym, subst, arith}
use Rattle.dep_types.specs.Maps.{◌>>=◌}
use Rattle.serde_json.specs.View.{items_view}
use Rattle.dep_docs_in.specs.Ahead.{IsReading, read_behind}
use Rattle.dep_docs_in.proofs.Parts.{all_read}
use Rattle.dep_docs_in.proofs.ahead.ReadEntries.go_on.Goals as goal

pub returns-in-Ok-2 : goal.returns-in-Ok-2
returns-in-Ok-2 c content is =
    let base = c.args.config.now.base in
    let front = c.in-Part.references.items in
    let so_far = subst (IsReading base content) c.in-Part.is is in
    so_far
    ∙ ap (λ o. o >>= read_behind base front) c.in-Some.ensures.some.1
    ∙ ap (λ vs. read_behind base front (items_view vs)) (sym c.deref.ensures.value)
    ∙ c.in-Ok-2.ensures.ok
    ∙ all_read base c.deref.result.now c.read_some.new.references.items (omega arith)
    ∙ ap Some (sym c.from_vec.ensures)
