-- Which fault of a value is the first.
use Rattle.std.proofs.Common.{◌≡◌, ◌⊎◌, inl, inr, sym, subst, MatchOption, IsSomeAnd}
use Rattle.json.specs.Json.{Json}
use Rattle.json.specs.Find.{as_object}
use Rattle.json.specs.Strict.{keys}
use Rattle.dep_types.specs.Base.{IsBase}
use Rattle.dep_types.specs.declared.config.Config.{Config}
use Rattle.dep_configuration.specs.Configured.{HasConfig}
use Rattle.dep_configuration.specs.Faults.{AreReadable, IsFirstFault, IsFirstOfFields}
use Rattle.dep_configuration.specs.Names.{GivesFields, IsFaultOfNames}
use Rattle.dep_configuration.specs.declared.field.ConfigurationField.TheVariants.{Base}
use Rattle.dep_configuration.specs.declared.fault.ConfigurationFault.{ConfigurationFault}
use Rattle.dep_configuration.specs.declared.fault.ConfigurationFault.TheVariants.{Invalid, Memory, NotObject}

pub first-of-names : (e : ConfigurationFault) (j : Json) → (e ≡ Memory) ⊎ MatchOption (as_object j) (e ≡ NotObject) (λ members. IsFaultOfNames e (keys members)) → (e ≡ Memory) ⊎ IsFirstFault e j
first-of-names e j (inl memory) = inl memory
first-of-names e j (inr names) = inr (inl names)

pub then-of-fields : (e : ConfigurationFault) (j : Json) → GivesFields j → IsFirstOfFields e j → (e ≡ Memory) ⊎ IsFirstFault e j
then-of-fields e j named first = inr (inr (named, inl first))

pub last-of-base : (e : ConfigurationFault) (j : Json) (config : Config) → GivesFields j → AreReadable j → HasConfig config j → (e ≡ Memory) ⊎ ((e ≡ Invalid Base) × (¬ IsBase config.base)) → (e ≡ Memory) ⊎ IsFirstFault e j
last-of-base e j config named readable gives (inl memory) = inl memory
last-of-base e j config named readable gives (inr fault) =
    inr (inr (
      named,
      inr (record {
        reported = fault.0;
        readable = readable;
        cause = subst (λ o. IsSomeAnd o (λ text. ¬ IsBase text)) (sym gives.base) fault.1;
      }),
    ))
