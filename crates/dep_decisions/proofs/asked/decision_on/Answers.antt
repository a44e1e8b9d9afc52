use Rattle.std.proofs.Common.{◌≡◌, ◌∙◌, None, ap, option_map, sym}
use Rattle.std.specs.Option.{option_copied}
use Rattle.dep_decisions.specs.Kinds.{content_kind}
use Rattle.dep_decisions.specs.Purposes.{kind_for}
use Rattle.dep_decisions.proofs.ContentAsked.{undeposited_asked}
use Rattle.dep_decisions.proofs.asked.decision_on.Goals as goal

pub returns-in-None : goal.returns-in-None
returns-in-None c =
    let op = c.args.operation.now in
    let is : content_kind op ≡ None = sym c.requires.purpose ∙ ap (option_map kind_for) c.in-None.is in
    c.undeposited.ensures ∙ undeposited_asked (option_copied c.args.references) op is
