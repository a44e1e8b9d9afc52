use Rattle.std.proofs.Common.{◌≡◌, ◌⊎◌, ◌∙◌, OnOk, IfErr, MatchOption, ap, sym, subst}
use Rattle.json.specs.Find.{as_object}
use Rattle.json.specs.Strict.{keys}
use Rattle.json.specs.Json.{object}
use Rattle.json.specs.Value.{members_view, value_view}
use Rattle.json.proofs.Trees.{view-Object}
use Rattle.dep_configuration.specs.Names.{AreFieldNames, GivesFields, IsFaultOfNames}
use Rattle.dep_configuration.specs.declared.fault.ConfigurationFault.TheVariants.{Memory, NotObject}
use Rattle.dep_configuration.proofs.names.check_names.Goals as goal

pub returns : goal.returns
returns c =
    let seen : value_view c.args.value.now ≡ object (members_view c.in-Object.members.items) = ap value_view c.in-Object.is ∙ view-Object c.in-Object.members in
    record {
      taken = subst (λ value. OnOk c.check_members.result (GivesFields value)) (sym seen)
          (subst (λ members. OnOk c.check_members.result (AreFieldNames (keys (members_view members)))) c.deref.ensures.value c.check_members.ensures.taken);
      refused = subst (λ value. IfErr c.check_members.result (λ e. (e ≡ Memory) ⊎ MatchOption (as_object value) (e ≡ NotObject) (λ members. IsFaultOfNames e (keys members)))) (sym seen)
          (subst (λ members. IfErr c.check_members.result (λ e. (e ≡ Memory) ⊎ IsFaultOfNames e (keys (members_view members)))) c.deref.ensures.value c.check_members.ensures.refused);
    }
