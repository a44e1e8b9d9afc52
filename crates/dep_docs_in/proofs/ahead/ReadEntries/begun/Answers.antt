use Rattle.std.proofs.Common.{◌≡◌, is_some, rules, true}
use Rattle.serde_json.specs.View.{view}
use Rattle.dep_docs_in.proofs.Parts.{begun, taken}
use Rattle.dep_docs_in.proofs.ahead.ReadEntries.begun.Goals as goal

pub returns-in-Ok : goal.returns-in-Ok
returns-in-Ok c base =
    let is : is_some c.entries_of.result ≡ true = search rules in
    let entries = taken c.entries_of.result c.entries_of.ensures.some is in
    begun base _ c.args.content.now (view c.in-Ok.document) c.new.result.items c.in-Ok.ensures entries.1.1 entries.1.0 c.new.ensures.items
