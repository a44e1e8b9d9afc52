use Rattle.std.proofs.Common.{◌∙◌, sym, ap, codes}
use Rattle.std.specs.List.{list_any}
use Rattle.dep_octets.specs.Octets.{members}
use Rattle.dep_head.specs.Head.{values_of}
use Rattle.dep_fields.specs.Tags.{holds, is_met}
use Rattle.dep_fields.proofs.TagLemmas.{some_joined}
use Rattle.dep_fields.proofs.if_match.IfMatch.holds.Goals as goal

pub returns : goal.returns
returns c =
    c.some_has_member.ensures
    ∙ ap (list_any (λ t. list_any (is_met c.args.tag) (members t))) c.values.ensures
    ∙ sym (some_joined (is_met c.args.tag) (values_of c.self.inside.head.now.fields (codes "If-Match")))
    ∙ ap (λ m. holds m c.args.tag) c.self.view_is
