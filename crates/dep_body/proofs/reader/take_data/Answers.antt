use Rattle.std.proofs.Common.{◌≡◌, ◌-◌, ◌++◌, ◌<◌, None, length, take, arith, subst, sym}
use Rattle.std.proofs.lemmas.List.{length-take-le}
use Rattle.dep_body.specs.Standing.{IsInData, IsBehindData}
use Rattle.dep_body.proofs.DataSteps.{data_goes, data_ends}
use Rattle.dep_body.proofs.reader.take_data.Goals as goal

pub returns-then-later-eq0-clause-stands : goal.returns-then-later-eq0-clause-stands
returns-then-later-eq0-clause-stands c = λ limit text h.
    let more = take c.min-count.result c.args.rest.now in
    let long : length more ≡ c.min-count.result = length-take-le _ _ (omega (arith, c.min-count.ensures)) in
    let all : length more ≡ c.args.left.bytes = omega (arith, long, c.min-count.ensures, c.if-later-eq0.true) in
    subst (λ s. IsBehindData limit s None (text ++ more)) (sym c.in_ok-append.ensures.ok)
    (data_ends limit c.args.content.now text more c.args.left.bytes h all)

pub returns-clause-stands : goal.returns-clause-stands
returns-clause-stands c = λ limit text h.
    let more = take c.min-count.result c.args.rest.now in
    let long : length more ≡ c.min-count.result = length-take-le _ _ (omega (arith, c.min-count.ensures)) in
    let less : length more < c.args.left.bytes = omega (arith, long, c.min-count.ensures, c.if-later-eq0.false) in
    subst (λ s. IsInData limit s (c.args.left.bytes - c.min-count.result) (text ++ more)) (sym c.in_ok-append.ensures.ok)
    (subst (λ n. IsInData limit (c.args.content.now ++ more) (c.args.left.bytes - n) (text ++ more)) long
    (data_goes limit c.args.content.now text more c.args.left.bytes h less))
