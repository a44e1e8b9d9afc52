use Rattle.std.proofs.Common.{◌≡◌, ◌∙◌, ap, sym, is_some}
use Rattle.json.specs.Find.{as_str}
use Rattle.json.specs.Value.{value_view}
use Rattle.dep_configuration.proofs.ValuesGiven.{is-some, text-is-some}
use Rattle.dep_configuration.proofs.field.Wanted.suits.Goals as goal

pub returns-in-Flag : goal.returns-in-Flag
returns-in-Flag c = rw c.in-Flag.is (is-some _ c.is_some-in-Flag.result (c.is_some-in-Flag.ensures ∙ ap is_some c.as_bool.ensures))

pub returns-in-Address : goal.returns-in-Address
returns-in-Address c = rw c.in-Address.is c.is_address.ensures

pub returns-in-WholeNumber : goal.returns-in-WholeNumber
returns-in-WholeNumber c = rw c.in-WholeNumber.is (is-some _ c.is_some-in-WholeNumber.result (c.is_some-in-WholeNumber.ensures ∙ ap is_some c.whole_number.ensures))
