use Rattle.std.proofs.Common.{◌∙◌, sym, subst, take, inr, Contains}
use Rattle.json.specs.Strict.{keys}
use Rattle.json.specs.Value.{members_view}
use Rattle.dep_configuration.proofs.NamesInOrder.{all-named, contains-name, keys-taken, lacks-name, name-at, none-named, one-more, repeated-first, unknown-first}
use Rattle.dep_configuration.proofs.names.check_members.Goals as goal

pub loop-place-init : goal.loop-place-init
loop-place-init c = none-named

pub returns-then-not-is_field-clause-refused : goal.returns-then-not-is_field-clause-refused
returns-then-not-is_field-clause-refused c =
    let at = name-at c.args.members.now c.loop-place.place c.index-members-place.result c.loop-place-test.true (sym c.index-members-place.is) in
    inr (unknown-first (keys (members_view c.args.members.now)) c.loop-place.place c.index-members-place.result.0.now _ c.in_ok-from_str.ensures.ok at.0 at.1 c.loop-place.invariant (sym c.is_field.ensures ∙ c.if-not-is_field.true))

pub returns-then-has_name-clause-refused : goal.returns-then-has_name-clause-refused
returns-then-has_name-clause-refused c =
    let name = c.index-members-place.result.0.now in
    let at = name-at c.args.members.now c.loop-place.place c.index-members-place.result c.loop-place-test.true (sym c.index-members-place.is) in
    let again = contains-name (take c.loop-place.place c.args.members.now) name (sym c.has_name.ensures ∙ c.if-has_name.true) in
    inr (repeated-first (keys (members_view c.args.members.now)) c.loop-place.place name _ c.in_ok-from_str-2.ensures.ok at.0 at.1 c.loop-place.invariant
    (subst (λ names. Contains names name) (sym (keys-taken c.loop-place.place c.args.members.now)) again))

pub loop-place-preserved : goal.loop-place-preserved
loop-place-preserved c =
    let name = c.index-members-place.result.0.now in
    let at = name-at c.args.members.now c.loop-place.place c.index-members-place.result c.loop-place-test.true (sym c.index-members-place.is) in
    let lacks = lacks-name (take c.loop-place.place c.args.members.now) name (sym c.has_name.ensures ∙ c.if-has_name.false) in
    one-more (keys (members_view c.args.members.now)) c.loop-place.place name at.0 at.1 c.loop-place.invariant (sym c.is_field.ensures ∙ c.if-not-is_field.false)
    (subst (λ names. ¬ Contains names name) (sym (keys-taken c.loop-place.place c.args.members.now)) (λ h. lacks h.0 h.1 h.2))

pub returns-clause-taken : goal.returns-clause-taken
returns-clause-taken c = all-named c.loop-place.place c.args.members.now c.loop-place-test.false c.loop-place.invariant
