use Rattle.std.proofs.Common.{◌≡◌, ◌∙◌, ℕ, List, [], ◌∷◌, ◌++◌, Some, None, Option, sym, ap, subst, arith, append_assoc, append-nil}
use Rattle.std.proofs.lemmas.List.{map-append}
use Rattle.dep_params.specs.Grammar.{AreParameters, NamedValue}
use Rattle.dep_params.specs.Reading.{IsReadingFault, semicolon_read, parameter_read}
use Rattle.dep_params.specs.Stored.{view, views}
use Rattle.dep_params.proofs.Slots.{semicolon-shorter, parameter-shorter, parameters-end, parameters-empty, parameters-holds, empty-left, holds-left, refuses-semicolon, refuses-parameter, is_named, is_unnamed, refused_by, parameter-behind}
use Rattle.dep_params.proofs.Values.{parameter_read-sound}
use Rattle.dep_params.proofs.reader.read_parameters.Goals as goal

pub returns-in_err-after-clause-refused : goal.returns-in_err-after-clause-refused
returns-in_err-after-clause-refused c =
    let refused = refuses-semicolon c.args.text.now c.loop-parameters.rest.now c.in_err-after.field-0.0 c.loop-parameters.invariant.left c.in_err-after.ensures in
    refused_by _ c.args.text.now c.in_err-after.field-0.0 c.from_residual.ensures.1 refused

pub returns-in_err-parameter-clause-refused : goal.returns-in_err-parameter-clause-refused
returns-in_err-parameter-clause-refused c =
    let rest = c.loop-parameters.rest.now in
    let after = c.in-Some.after.now in
    let found : semicolon_read rest ≡ Some (Some after) = rw c.in-Some.is at c.in_ok-after.ensures in
    let named = is_named after _ _ c.split_token.ensures.token c.is_empty.ensures c.if-not-is_empty.true in
    let fails = subst (λ (o : Option (NamedValue × List ℕ)). IsReadingFault c.in_err-parameter.field-0.0 o) (parameter-behind after _ _ c.split_token.ensures.token c.split_token.ensures.rest) c.in_err-parameter.ensures in
    let refused = refuses-parameter c.args.text.now rest after c.in_err-parameter.field-0.0 c.loop-parameters.invariant.left found named fails in
    refused_by _ c.args.text.now c.in_err-parameter.field-0.0 c.from_residual-in_err-parameter.ensures.1 refused

pub loop-parameters-smaller-then-not-is_empty : goal.loop-parameters-smaller-then-not-is_empty
loop-parameters-smaller-then-not-is_empty c =
    let rest = c.loop-parameters.rest.now in
    let after = c.in-Some.after.now in
    let found : semicolon_read rest ≡ Some (Some after) = rw c.in-Some.is at c.in_ok-after.ensures in
    let named = is_named after _ _ c.split_token.ensures.token c.is_empty.ensures c.if-not-is_empty.true in
    let first = semicolon-shorter rest after found in
    let read : parameter_read after ≡ Some (view c.in_ok-parameter.parameter, c.in_ok-parameter.after.now) =
    sym (parameter-behind after _ _ c.split_token.ensures.token c.split_token.ensures.rest) ∙ c.in_ok-parameter.ensures in
    let second = parameter-shorter after c.in_ok-parameter.after.now _ named read in
    omega (arith, first, second)

pub loop-parameters-preserved-then-not-is_empty : goal.loop-parameters-preserved-then-not-is_empty
loop-parameters-preserved-then-not-is_empty c =
    let rest = c.loop-parameters.rest.now in
    let after = c.in-Some.after.now in
    let tail = c.in_ok-parameter.after.now in
    let p = view c.in_ok-parameter.parameter in
    let found : semicolon_read rest ≡ Some (Some after) = rw c.in-Some.is at c.in_ok-after.ensures in
    let named = is_named after _ _ c.split_token.ensures.token c.is_empty.ensures c.if-not-is_empty.true in
    let read : parameter_read after ≡ Some (p, tail) = sym (parameter-behind after _ _ c.split_token.ensures.token c.split_token.ensures.rest) ∙ c.in_ok-parameter.ensures in
    let is = parameter_read-sound after (p, tail) named read in
    let more : views c.push.new.self.items ≡ views c.loop-parameters.parameters.items ++ p ∷ [] =
    ap views c.in_ok-push.ensures.items ∙ map-append view c.loop-parameters.parameters.items _ in
    record {
      joined = λ ps behind. rw (more, append_assoc) (c.loop-parameters.invariant.joined (p ∷ ps) (parameters-holds rest after tail p ps found is behind));
      left = λ ps whole. let left = c.loop-parameters.invariant.left ps whole in holds-left rest after tail p left.0 found named read left.1;
    }

pub loop-parameters-smaller : goal.loop-parameters-smaller
loop-parameters-smaller c =
    let rest = c.loop-parameters.rest.now in
    let after = c.in-Some.after.now in
    let found : semicolon_read rest ≡ Some (Some after) = rw c.in-Some.is at c.in_ok-after.ensures in
    semicolon-shorter rest after found

pub loop-parameters-preserved : goal.loop-parameters-preserved
loop-parameters-preserved c =
    let rest = c.loop-parameters.rest.now in
    let after = c.in-Some.after.now in
    let found : semicolon_read rest ≡ Some (Some after) = rw c.in-Some.is at c.in_ok-after.ensures in
    let none = is_unnamed after _ _ c.split_token.ensures.token c.is_empty.ensures c.if-not-is_empty.false in
    record {
      joined = λ ps behind. c.loop-parameters.invariant.joined ps (parameters-empty rest after ps found behind);
      left = λ ps whole. let left = c.loop-parameters.invariant.left ps whole in empty-left rest after left.0 found none left.1;
    }

pub returns-clause-read : goal.returns-clause-read
returns-clause-read c =
    let rest = c.loop-parameters.rest.now in
    let found : semicolon_read rest ≡ Some None = rw c.in_default.is at c.in_ok-after.ensures in
    subst (AreParameters c.args.text.now) (append-nil _) (c.loop-parameters.invariant.joined [] (parameters-end rest found))
