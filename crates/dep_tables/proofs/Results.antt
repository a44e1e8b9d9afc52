-- Facts on a result that is passed on.
use Rattle.std.proofs.Common.{◌≡◌, Bool, true, false, IsTrue, sym, ◌∙◌, Result, Ok, Err, OnOk, OnErr, IfOk, IfErr, IsErrAnd}

pub ok_then : {A E P Q : Type 0} (r : Result A E) → OnOk r P → (P → Q) → OnOk r Q
ok_then (Ok x) p f = f p
ok_then (Err e) p f = tt

pub if_ok : {A E P : Type 0} (r : Result A E) → P → OnOk r P
if_ok (Ok x) p = p
if_ok (Err e) p = tt

pub if_then : {A E : Type 0} {P Q : A → Type 0} (r : Result A E) → IfOk r P → ((x : A) → P x → Q x) → IfOk r Q
if_then (Ok x) p f = f x p
if_then (Err e) p f = tt

pub if_failed : {A E P : Type 0} (r : Result A E) → P → OnErr r P
if_failed (Ok x) p = tt
if_failed (Err e) p = p

-- what holds of one failure holds of another, which may represent an Ok
pub failed_as : {A E B F P Q : Type 0} (r : Result A E) (s : Result B F) → OnOk r P → OnErr r Q → (P → Q) → OnErr s Q
failed_as (Ok x) s p q f = if_failed s (f p)
failed_as (Err e) s p q f = if_failed s q

pub if_err : {A E : Type 0} {P Q : E → Type 0} (r : Result A E) → IfErr r P → ((e : E) → P e → Q e) → IfErr r Q
if_err (Ok x) p f = tt
if_err (Err e) p f = f e p

pub err_then : {A E : Type 0} {P Q : E → Type 0} (r : Result A E) → IsErrAnd r P → ((e : E) → P e → Q e) → IfErr r Q
err_then (Ok x) p f = tt
err_then (Err e) p f = f e p

-- what follows where a test has told otherwise
pub not_storable : {P Q : Type 0} (reported : Bool) → reported ≡ false → (P → IsTrue reported) → P → Q
not_storable reported is_false known storable = let never : false ≡ true = sym is_false ∙ known storable in absurd (cc)
