-- What a field that can be read gives.
use Rattle.std.proofs.Common.{◌≡◌, ◌∙◌, ◌≤◌, ℕ, Bool, true, false, nat_le, List, [], ◌∷◌, Option, Some, None, IsSome, is_some, MatchOption, Result, Ok, Err, IfOk, option_map, refl, sym, ap, subst, cond, true≢false, arith}
use Rattle.std.specs.Option.{option_map_or, unwrap_or}
use Rattle.std.specs.Borrow.{Bor}
use Rattle.std.proofs.lemmas.Bool.Decides.{nat_tests}
use Rattle.json.specs.Json.{Json}
use Rattle.json.specs.Find.{as_bool, as_number, as_str}
use Rattle.dep_octets.specs.Octets.{is_digits, decimal_number}
use Rattle.dep_octets.specs.declared.numbers.Number.TheVariants.{NotDigits, Above, Value}
use Rattle.std.proofs.lemmas.Option.{same_Some}
use Rattle.std.specs.Str.Parse.{digits_value}
use Rattle.dep_types.specs.Maps.{◌>>=◌, optional}
use Rattle.dep_types.specs.Limits.{IsLimit}
use Rattle.dep_types.specs.Config as set_up
use Rattle.dep_types.specs.declared.config.Config.{Config}
use Rattle.dep_configuration.specs.Configured.{HasConfig}
use Rattle.dep_configuration.specs.Faults.{is_required, AreReadable, Suits}
use Rattle.dep_configuration.specs.Fields.{bounds, bounds_of, wanted_of}
use Rattle.dep_configuration.specs.Readings.{at_least, nonempty, filled_text_of, flag_of, given_field, given_text, number_or_default, number_within, optional_number_of, text_or_default}
use Rattle.dep_configuration.specs.declared.field.Bounds.{Bounds}
use Rattle.dep_configuration.specs.declared.field.ConfigurationField.{ConfigurationField}
use Rattle.dep_configuration.specs.declared.field.ConfigurationField.TheVariants.{Port, MaxUpload, MaxAssembled, MaxSegments, StagingMaxIdle}
use Rattle.dep_configuration.specs.declared.field.Wanted.{Wanted}
use Rattle.dep_configuration.specs.declared.field.Wanted.TheVariants.{AnyText, FilledText, Flag, Address, Base, WholeNumber}

some-or : {X : Type 0} (r : Option X) (default : X) → IsSome r → r ≡ Some (unwrap_or r default)
some-or (Some x) default h = refl
some-or None default h = cc

-- what is read where it's there, and a default where it isn't
read-or : {X V : Type 0} (P : Type 0) (read : V → Option X) (o : Option V) (default : X) → MatchOption o P (λ v. IsSome (read v)) → option_map_or read o (Some default) ≡ Some (unwrap_or (o >>= read) default)
read-or P read None default h = refl
read-or P read (Some v) default h = some-or (read v) default h

some-mapped : {X : Type 0} (r : Option X) → IsSome r → option_map (λ x. Some x) r ≡ Some r
some-mapped (Some x) h = refl
some-mapped None h = cc

read-optional : {X : Type 0} (P : Type 0) (read : Json → Option X) (o : Option Json) → MatchOption o P (λ v. IsSome (read v)) → optional read o ≡ Some (o >>= read)
read-optional P read None h = refl
read-optional P read (Some v) h = some-mapped (read v) h

-- a field that can be read suits what it is known to want
suited : (field : ConfigurationField) (w : Wanted) (j : Json) → AreReadable j → wanted_of field ≡ w → MatchOption (given_field field j) (is_required w ≡ false) (Suits w)
suited field w j readable e = subst (λ w. MatchOption (given_field field j) (is_required w ≡ false) (Suits w)) e (readable field)

pub text-or : (field : ConfigurationField) (default : List ℕ) (j : Json) → AreReadable j → wanted_of field ≡ AnyText → text_or_default field default j ≡ Some (unwrap_or (given_text field j) default)
text-or field default j readable e = read-or (false ≡ false) as_str (given_field field j) default (suited field AnyText j readable e)

flag-or : (field : ConfigurationField) (j : Json) → AreReadable j → wanted_of field ≡ Flag → flag_of field j ≡ Some (unwrap_or (given_field field j >>= as_bool) false)
flag-or field j readable e = read-or (false ≡ false) as_bool (given_field field j) false (suited field Flag j readable e)

pub flag-given : (field : ConfigurationField) (j v : Json) (b : Bool) → AreReadable j → wanted_of field ≡ Flag → Some v ≡ given_field field j → b ≡ unwrap_or (as_bool v) false → flag_of field j ≡ Some b
flag-given field j v b readable e given_field same =
    flag-or field j readable e ∙ ap (λ o. Some (unwrap_or (o >>= as_bool) false)) (sym given_field) ∙ ap (λ b. Some b) (sym same)

pub flag-absent : (field : ConfigurationField) (j : Json) → AreReadable j → wanted_of field ≡ Flag → None ≡ given_field field j → flag_of field j ≡ Some false
flag-absent field j readable e given_field = flag-or field j readable e ∙ ap (λ o. Some (unwrap_or (o >>= as_bool) false)) (sym given_field)

pub number-or : (field : ConfigurationField) (default : ℕ) (j : Json) → AreReadable j → wanted_of field ≡ WholeNumber (bounds_of field) → number_or_default field default j ≡ Some (unwrap_or (given_field field j >>= number_within (bounds_of field)) default)
number-or field default j readable e = read-or (false ≡ false) (number_within (bounds_of field)) (given_field field j) default (suited field (WholeNumber (bounds_of field)) j readable e)

pub number-optional : (field : ConfigurationField) (j : Json) → AreReadable j → wanted_of field ≡ WholeNumber (bounds_of field) → optional_number_of field j ≡ Some (given_field field j >>= number_within (bounds_of field))
number-optional field j readable e = read-optional (false ≡ false) (number_within (bounds_of field)) (given_field field j) (suited field (WholeNumber (bounds_of field)) j readable e)

-- a text that has to be given is there, and isn't empty where it must not be
some-of-filled : (r : Option (List ℕ)) → IsSome (r >>= nonempty) → IsSome r
some-of-filled None h = h
some-of-filled (Some text) h = refl

text-there : (w : Wanted) (o : Option Json) → MatchOption o (is_required w ≡ false) (Suits w) → is_required w ≡ true → IsSome (o >>= as_str)
text-there w None h e = absurd (true≢false (sym e ∙ h))
text-there AnyText (Some v) h e = absurd (true≢false (sym e))
text-there FilledText (Some v) h e = some-of-filled (as_str v) h
text-there Flag (Some v) h e = absurd (true≢false (sym e))
text-there Address (Some v) h e = absurd (true≢false (sym e))
text-there Base (Some v) h e = h
text-there (WholeNumber b) (Some v) h e = absurd (true≢false (sym e))

both-there : (o : Option Json) → MatchOption o (true ≡ false) (λ v. IsSome (as_str v >>= nonempty)) → IsSome (o >>= as_str >>= nonempty)
both-there None h = absurd (true≢false h)
both-there (Some v) h = h

filled-same : (r : Option (List ℕ)) → IsSome (r >>= nonempty) → (r >>= nonempty) ≡ r
filled-same None h = cc
filled-same (Some []) h = cc
filled-same (Some (b ∷ text)) h = refl

pub filled-text : (field : ConfigurationField) (j : Json) → AreReadable j → wanted_of field ≡ FilledText → filled_text_of field j ≡ given_text field j
filled-text field j readable e = filled-same (given_text field j) (both-there (given_field field j) (suited field FilledText j readable e))

pub required : (field : ConfigurationField) (j : Json) → AreReadable j → is_required (wanted_of field) ≡ true → IsSome (given_text field j)
required field j readable e = text-there (wanted_of field) (given_field field j) (readable field) e

-- a number that is read is within its bounds
in-bounds : (least most n : ℕ) (digits : Bool) (value : ℕ) → at_least least (cond digits (cond (nat_le value most) (Value value) Above) NotDigits) ≡ Some n → (least ≤ n) × (n ≤ most)
in-bounds least most n digits value h = grind (arith, nat_tests)

within-number : (b : Bounds) (r : Option (List ℕ)) (n : ℕ) → (r >>= (λ text. at_least b.least (decimal_number text b.most))) ≡ Some n → (b.least ≤ n) × (n ≤ b.most)
within-number b None n h = cc
within-number b (Some text) n h = in-bounds b.least b.most n (is_digits text) (digits_value 10 text) h

number-within : (b : Bounds) (v : Json) (n : ℕ) → number_within b v ≡ Some n → (b.least ≤ n) × (n ≤ b.most)
unfolding number_within
number-within b v n h = within-number b (as_number v) n h

number-of : (b : Bounds) (o : Option Json) (default n : ℕ) → (b.least ≤ default) × (default ≤ b.most) → option_map_or (number_within b) o (Some default) ≡ Some n → (b.least ≤ n) × (n ≤ b.most)
number-of b None default n fits h = subst (λ m. (b.least ≤ m) × (m ≤ b.most)) (same_Some default n h) fits
number-of b (Some v) default n fits h = number-within b v n h

pub port-fits : (j : Json) (n : ℕ) → number_or_default Port 8080 j ≡ Some n → n ≤ 65535
unfolding bounds_of
port-fits j n h = (number-of (bounds_of Port) (given_field Port j) 8080 n (omega arith, omega arith) h).1

limit : (field : ConfigurationField) (greatest default : ℕ) (j : Json) (n : ℕ) → bounds_of field ≡ bounds 1 greatest → (1 ≤ default) × (default ≤ greatest) → number_or_default field default j ≡ Some n → IsLimit n greatest
limit field greatest default j n e fits h =
    let r = subst (λ (b : Bounds). (b.least ≤ n) × (n ≤ b.most)) e (number-of (bounds_of field) (given_field field j) default n (subst (λ (b : Bounds). (b.least ≤ default) × (default ≤ b.most)) (sym e) fits) h) in
    record { least = r.0; most = r.1 }

-- what is read has the limits of a server
pub limits-of : (config : Config) (j : Json) → HasConfig config j → set_up.HasLimits config
unfolding bounds_of
limits-of config j h = record {
  upload = limit MaxUpload 16777216 16777216 j config.max_upload refl (omega arith, omega arith) h.upload;
  assembled = limit MaxAssembled 17179869184 17179869184 j config.max_assembled refl (omega arith, omega arith) h.assembled;
  segments = limit MaxSegments 10000 10000 j config.max_segments refl (omega arith, omega arith) h.segments;
  idle = limit StagingMaxIdle 31536000 3600 j config.staging_max_idle refl (omega arith, omega arith) h.idle;
}

-- what a reference to a text is seen as
pub unwrapped : (r : Option (Bor (List ℕ))) (default : Bor (List ℕ)) → (unwrap_or r default).now ≡ unwrap_or (option_map (λ x. x.now) r) default.now
unwrapped (Some x) default = refl
unwrapped None default = refl

pub there-seen : (r : Option (Bor (List ℕ))) (o : Option (List ℕ)) → option_map (λ x. x.now) r ≡ o → IsSome o → IsSome r
there-seen (Some x) o e h = refl
there-seen None o e h = subst IsSome (sym e) h

-- a copy of a text that is read
pub copied-text : {E : Type 0} (o : Option (List ℕ)) (text : List ℕ) (r : Result (List ℕ) E) → o ≡ Some text → IfOk r (λ copied. copied ≡ text) → IfOk r (λ copied. o ≡ Some copied)
copied-text o text (Ok copied) read same = read ∙ ap (λ t. Some t) (sym same)
copied-text o text (Err e) read same = tt

-- whether there is a value, told by what looks at it
pub is-some : {X : Type 0} (o : Option X) (told : Bool) → told ≡ is_some o → (told ≡ true → IsSome o) × (IsSome o → told ≡ true)
is-some o told same = (λ h. sym same ∙ h, λ h. same ∙ h)

pub text-is-some : (r : Option (Bor (List ℕ))) (o : Option (List ℕ)) (told : Bool) → option_map (λ x. x.now) r ≡ o → told ≡ is_some r → (told ≡ true → IsSome o) × (IsSome o → told ≡ true)
text-is-some (Some x) o told e same = (λ _. subst IsSome e refl, λ _. same)
text-is-some None o told e same = (λ h. absurd (true≢false (sym h ∙ same)), λ h. absurd (true≢false (sym (subst IsSome (sym e) h))))
