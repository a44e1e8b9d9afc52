use Rattle.std.proofs.Common.{◌∙◌, ap, false}
use Rattle.std.specs.Option.{unwrap_or}
use Rattle.json.specs.Find.{get}
use Rattle.json.specs.Value.{value_view}
use Rattle.dep_configuration.proofs.ValuesGiven.{flag-absent, flag-given}
use Rattle.dep_configuration.proofs.values.flag.Goals as goal

pub returns-in-Some : goal.returns-in-Some
returns-in-Some c =
    flag-given c.args.field (value_view c.args.value.now) (value_view c.in-Some.found.now) c.unwrap_or.result c.requires.readable c.requires.wanted
    (c.in-Some.ensures ∙ ap (λ name. get name (value_view c.args.value.now)) c.name.ensures)
    (c.unwrap_or.ensures ∙ ap (λ o. unwrap_or o false) c.as_bool.ensures)

pub returns-in-None : goal.returns-in-None
returns-in-None c =
    flag-absent c.args.field (value_view c.args.value.now) c.requires.readable c.requires.wanted
    (c.in-None.ensures ∙ ap (λ name. get name (value_view c.args.value.now)) c.name.ensures)
