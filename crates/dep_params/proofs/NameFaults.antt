-- Why a function that hands on a fault gives no name.
use Rattle.std.proofs.Common.{◌≡◌, ℕ, List, Result, Ok, Err, refl, sym, subst, inl, inr, IfErr, MatchResult}
use Rattle.std.specs.Result.{IsErrAnd}
use Rattle.dep_params.specs.Failing.{FailsToName}
use Rattle.dep_params.specs.Names.{IsNameFault}
use Rattle.dep_params.specs.declared.disposition.ParamFault.{ParamFault}
use Rattle.dep_params.specs.declared.disposition.ParamFault.TheVariants.{Malformed, Repeated, NoName, Memory}

-- the fault that is handed on is the one that was reported
pub err_is : {A : Type 0} (result : Result A ParamFault) (e f : ParamFault) → IsErrAnd result (λ g. g ≡ e) → result ≡ Err f → e ≡ f
err_is (Ok a) e f h is = cc is
err_is (Err g) e f h is = cc (h, is)

pub fails_by : {A : Type 0} (result : Result A ParamFault) (IsName : List ℕ → Type 0) (e f : ParamFault) → IsErrAnd result (λ g. g ≡ e) → FailsToName IsName e → result ≡ Err f → FailsToName IsName f
fails_by result IsName e f h fails is = subst (FailsToName IsName) (err_is result e f h is) fails

name_fault : (IsName : List ℕ → Type 0) (e : ParamFault) → FailsToName IsName e → IsNameFault e
name_fault IsName Malformed fails = absurd fails
name_fault IsName Repeated fails = absurd fails
name_fault IsName NoName fails = inl refl
name_fault IsName Memory fails = inr refl

pub fault_by : {A : Type 0} (result : Result A ParamFault) (IsName : List ℕ → Type 0) (e : ParamFault) → IsErrAnd result (λ g. g ≡ e) → FailsToName IsName e → IfErr result IsNameFault
fault_by (Ok a) IsName e h fails = tt
fault_by (Err f) IsName e h fails = subst IsNameFault (sym h) (name_fault IsName e fails)

-- memory was refused for a name
pub wanted : {A : Type 0} (result : Result A ParamFault) (Gives : A → Type 0) (IsName : List ℕ → Type 0) (name : List ℕ) → IsErrAnd result (λ e. e ≡ Memory) → IsName name → MatchResult result Gives (FailsToName IsName)
wanted (Ok a) Gives IsName name h is = absurd h
wanted (Err e) Gives IsName name h is = subst (FailsToName IsName) (sym h) (name, is)
