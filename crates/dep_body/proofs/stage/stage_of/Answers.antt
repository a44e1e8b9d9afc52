use Rattle.std.proofs.Common.{◌≡◌, subst, inl, inr}
use Rattle.dep_body.specs.Lines.{line_size}
use Rattle.dep_body.specs.Reading.{SaysSize}
use Rattle.dep_body.specs.declared.size.SizeReading.{SizeReading}
use Rattle.dep_body.specs.declared.size.SizeReading.TheVariants.{Start, Digits, Extension, Malformed}
use Rattle.dep_body.proofs.SizeSteps.{line_says_none, line_says}
use Rattle.dep_body.proofs.stage.stage_of.Goals as goal

pub returns-in-Start : goal.returns-in-Start
returns-in-Start c = λ text content taken h.
    let said = λ (r : SizeReading) (e : c.args.reading ≡ r). subst (λ r. SaysSize c.args.limit r (line_size h.line)) e h.said in
    elim c.in-Start.is [
      | inl e ↦ line_says_none c.args.limit content text c.args.reading h (said Start e)
      | inr e ↦ line_says_none c.args.limit content text c.args.reading h (said Malformed e)
    ]

pub returns-in-Digits : goal.returns-in-Digits
returns-in-Digits c = λ text content taken h.
    let value = c.in-Digits.value in
    let said = λ (r : SizeReading) (e : c.args.reading ≡ r). subst (λ r. SaysSize c.args.limit r (line_size h.line)) e h.said in
    elim c.in-Digits.is [
      | inl e ↦
          let s = said (Digits value) e in
          c.stage_of_size.ensures text content s.0 taken (line_says c.args.limit content text c.args.reading value h s.0 s.1 s.2)
      | inr e ↦
          let s = said (Extension value) e in
          c.stage_of_size.ensures text content s.0 taken (line_says c.args.limit content text c.args.reading value h s.0 s.1 s.2)
    ]
