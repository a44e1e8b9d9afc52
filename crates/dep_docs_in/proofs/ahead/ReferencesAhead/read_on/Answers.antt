use Rattle.std.proofs.Common.{◌≡◌, rules, subst, sym}
use Rattle.dep_docs_in.specs.Ahead.{IsReading}
use Rattle.dep_docs_in.proofs.ahead.ReferencesAhead.read_on.Goals as goal

pub hold-requires : goal.hold-requires
hold-requires c =
    let read = c.in-Some.read in
    let entries = c.in_ok-entries-in-Some in
    let known : IsReading read.base read.content read.entries = search rules in
    let base : read.base ≡ c.args.config.now.base = search rules in
    subst (λ b. IsReading b read.content entries.entries) (sym base) (entries.ensures read.content (subst (λ b. IsReading b read.content read.entries) base known))

pub hold-requires-in_default : goal.hold-requires-in_default
hold-requires-in_default c =
    subst (λ content. IsReading c.in_ok-copied-in_default.field-0 content c.in_ok-begun-in_default.field-0) (sym c.in_ok-copied-in_default-2.ensures) (c.in_ok-begun-in_default.ensures c.in_ok-copied-in_default.field-0)
