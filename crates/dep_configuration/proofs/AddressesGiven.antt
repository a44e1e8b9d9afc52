-- Addresses that a configuration gives.
use Rattle.std.proofs.Common.{◌≡◌, ◌∙◌, ℕ, Bool, true, false, true≢false, List, Option, Some, None, Result, Ok, Err, is_ok, IsSomeAnd, MatchOption, refl, sym, subst}
use Rattle.std.specs.Net.Grammar.{IsIpText, Parses}
use Rattle.std.specs.declared.net.ip_addr.IpAddr.{IpAddr}
use Rattle.std.proofs.lemmas.Option.{none-some}
use Rattle.json.specs.Json.{Json}
use Rattle.json.specs.Find.{as_str}
use Rattle.dep_types.specs.Maps.{◌>>=◌}
use Rattle.dep_configuration.specs.Faults.{AreReadable, Suits}
use Rattle.dep_configuration.specs.Fields.{wanted_of}
use Rattle.dep_configuration.specs.Readings.{given_field, given_text}
use Rattle.dep_configuration.specs.declared.field.ConfigurationField.TheVariants as Name
use Rattle.dep_configuration.specs.declared.field.Wanted.TheVariants as Kind

-- a value is the text of an address
abbrev IsAddress : Json → Type 0
IsAddress v = (a : IpAddr) × IsSomeAnd (as_str v) (λ text. IsIpText text a)

suited-address : (j : Json) → AreReadable j → MatchOption (given_field Name.Address j) (false ≡ false) IsAddress
unfolding wanted_of
suited-address j readable = readable Name.Address

absent : (P : Type 0) (o : Option Json) → MatchOption o P IsAddress → (o >>= as_str) ≡ None → o ≡ None
absent P None h e = refl
absent P (Some v) h e = absurd (subst (λ r. IsSomeAnd r (λ text. IsIpText text h.0)) e h.1)

pub address-absent : (j : Json) → AreReadable j → given_text Name.Address j ≡ None → given_field Name.Address j ≡ None
address-absent j readable e = absent (false ≡ false) (given_field Name.Address j) (suited-address j readable) e

written : (P : Type 0) (o : Option Json) (text : List ℕ) → MatchOption o P IsAddress → Some text ≡ (o >>= as_str) → (a : IpAddr) × IsIpText text a
written P None text h e = absurd (none-some text (sym e))
written P (Some v) text h e = (h.0, subst (λ r. IsSomeAnd r (λ text. IsIpText text h.0)) (sym e) h.1)

pub address-written : (j : Json) (text : List ℕ) → AreReadable j → Some text ≡ given_text Name.Address j → (a : IpAddr) × IsIpText text a
address-written j text readable e = written (false ≡ false) (given_field Name.Address j) text (suited-address j readable) e

pub parsed-address : {E : Type 0} (v : Json) (text : List ℕ) (r : Result IpAddr E) (b : Bool) → Some text ≡ as_str v → Parses IsIpText text r → b ≡ is_ok r → (b ≡ true → Suits Kind.Address v) × (Suits Kind.Address v → b ≡ true)
parsed-address v text (Ok a) b e parses same = (λ _. (a, subst (λ o. IsSomeAnd o (λ t. IsIpText t a)) e parses), λ _. same)
parsed-address v text (Err x) b e parses same = (
  λ holds. absurd (true≢false (sym holds ∙ same)),
  λ s. absurd (parses s.0 (subst (λ o. IsSomeAnd o (λ t. IsIpText t s.0)) (sym e) s.1)),
)

pub no-address : (v : Json) → None ≡ as_str v → (false ≡ true → Suits Kind.Address v) × (Suits Kind.Address v → false ≡ true)
no-address v e = (
  λ holds. absurd (true≢false (sym holds)),
  λ s. absurd (subst (λ o. IsSomeAnd o (λ t. IsIpText t s.0)) (sym e) s.1),
)
