use Rattle.std.proofs.Common.{refl, sym, ◌∙◌}
use Rattle.dep_hub.proofs.LookLemmas.{shows_free, was_looked_at}
use Rattle.dep_hub.proofs.keeping.look_at.Goals as goal

pub returns-then-not-is_busy : goal.returns-then-not-is_busy
returns-then-not-is_busy c =
    let before = was_looked_at c.args.connection.now.behind c.in-Waits.is in
    record { same = refl; shows = λ cs busy. shows_free cs c.args.connection.now.intake c.args.connection.now.behind before.0 before.1 (sym busy ∙ c.if-not-is_busy.true) }
