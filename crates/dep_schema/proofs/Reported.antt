-- A fault that is passed on.
use Rattle.std.proofs.Common.{◌≡◌, ap, Result, Ok, Err, IsErrAnd}

abbrev fails : (T F : Type 0) → F → Result T F
fails T F fault = Err fault

pub passed_on : {T F : Type 0} (passed : Result T F) (fault : F) → IsErrAnd passed (λ it. it ≡ fault) → passed ≡ Err fault
passed_on (Ok x) fault is = absurd is
passed_on {T} {F} (Err it) fault is = ap (fails T F) is
