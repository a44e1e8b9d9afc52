-- Facts on a result that is passed on, and on a transaction that goes on unchanged.
use Rattle.std.proofs.Common.{◌≡◌, Result, Ok, Err, OnOk, ap, ◌≢◌, ℕ, ◌<◌, arith, false}
use Rattle.std.specs.Prelude.{if◌then◌else◌}
use Rattle.std.specs.Result.{is_ok, is_err}
use Rattle.sqlite.specs.State.{State, IsUnchanged}
use Rattle.sqlite.specs.Effect.{Database}
use Rattle.dep_tables.specs.Tables.{tables_of, tables_in}

pub ok_both : {A E P Q R : Type 0} (r : Result A E) → OnOk r P → OnOk r Q → (P → Q → R) → OnOk r R
ok_both (Ok x) p q f = f p q
ok_both (Err e) p q f = tt

pub same_tables : (old new : State) → IsUnchanged old new → tables_of new ≡ tables_of old
same_tables old new same = ap (λ (db : Database). tables_in db.trees) same.0.now_is

pub some_where : (n : ℕ) → n ≢ 0 → 0 < n
some_where n some = omega arith

-- what a push leaves that had room
pub pushed : {A E X : Type 0} (r : Result A E) (new grown old : X) → is_err r ≡ false → new ≡ if is_ok r then grown else old → new ≡ grown
pushed (Ok x) new grown old fine is = is
pushed (Err e) new grown old fine is = absurd (cc)
