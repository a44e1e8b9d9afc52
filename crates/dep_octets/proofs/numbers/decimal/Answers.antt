use Rattle.std.proofs.Common.{◌≡◌, ◌-◌, ◌<◌, ◌∙◌, ℕ, true, length, get_or, arith, refl, sym}
use Rattle.std.proofs.lemmas.Bool.Decides.{nat_tests}
use Rattle.std.proofs.lemmas.List.Folds.{list_all_more}
use Rattle.std.proofs.lemmas.Int.Digits.{digits_value_more}
use Rattle.std.specs.Char.{digit_value, is_ascii_digit}
use Rattle.dep_octets.proofs.numbers.decimal.Goals as goal

digit_is : (b : ℕ) → is_ascii_digit b ≡ true → digit_value b ≡ b - 48
digit_is b h = grind (arith, nat_tests)

pub loop-digit-preserved : goal.loop-digit-preserved
loop-digit-preserved c =
    let text = c.args.text.now in
    let i = c.loop-digit.digit-index in
    let within : i < length text = omega arith in
    let digit : is_ascii_digit (get_or text i 0) ≡ true = sym c.is_ascii_digit.ensures.value ∙ c.if-not-is_ascii_digit.false in
    let value : c.from.result ≡ digit_value (get_or text i 0) = c.from.ensures ∙ sym (digit_is _ digit) in
    record {
      digits = list_all_more is_ascii_digit text i 0 within ∙ rw (c.loop-digit.invariant.digits, digit) refl;
      number = rw (digits_value_more 10 text i within, ← value) (c.with_digit-value.ensures _ c.loop-digit.invariant.number);
    }
