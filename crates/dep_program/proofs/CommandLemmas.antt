-- Numbers of the command line.
use Rattle.std.proofs.Common.{◌≡◌, ◌⊎◌, ◌≤◌, ◌<◌, ℕ, zero, suc, Bool, true, false, nat_le, List, Some, inl, inr, cond, sym, subst, true≢false}
use Rattle.std.proofs.lemmas.Bool.Decides.{leb_tells}
use Rattle.std.proofs.lemmas.Option.{same_Some}
use Rattle.std.specs.Str.Parse.{digits_value}
use Rattle.dep_octets.specs.Octets.{is_digits, decimal_number, value_of}
use Rattle.dep_octets.specs.declared.numbers.Number.TheVariants.{NotDigits, Above, Value}
use Rattle.dep_program.specs.Commands.{from_one}

-- a number that is read is at most the greatest one
pub number_fits : (word : List ℕ) (most n : ℕ) → Some n ≡ from_one (value_of (decimal_number word most)) → n ≤ most
number_fits word most n h = by (is_digits word) (nat_le (digits_value 10 word) most) (digits_value 10 word) (leb_tells (digits_value 10 word) most) h
  where
    by : (digits fits : Bool) (value : ℕ) → ((fits ≡ true) × (value ≤ most)) ⊎ ((fits ≡ false) × (most < value)) → Some n ≡ from_one (value_of (cond digits (cond fits (Value value) Above) NotDigits)) → n ≤ most
    by true true (suc value) (inl fit) h = subst (λ m. m ≤ most) (sym (same_Some n (suc value) h)) fit.1
    by true true (suc value) (inr past) h = absurd (true≢false past.0)
    by true true zero reports h = cc
    by true false value reports h = cc
    by false fits value reports h = cc
