use Rattle.std.proofs.Common.{ℕ, ◌+◌, ◌<◌, ◌≤◌, Result, Ok, Err, length, arith, inl, inr}
use Rattle.std.specs.Result.{IsOk, OnErr}
use Rattle.std.proofs.lemmas.Bool.{cases_lt, false≢true}
use Rattle.dep_body.proofs.buffer.Buffer.append.Goals as goal

-- no bytes have room already
some_wanted : {T E : Type 0} (r : Result T E) (held count room : ℕ) → held ≤ room → (held + count ≤ room → IsOk r) → OnErr r (0 < count)
some_wanted (Ok x) held count room within ok = tt
some_wanted (Err e) held count room within ok = elim (cases_lt 0 count) as (λ _. 0 < count) [
  | inl some ↦ some
  | inr none ↦ absurd (false≢true (ok (omega (arith, none, within))))
]

pub returns-clause-wanted : goal.returns-clause-wanted
returns-clause-wanted c =
    let bytes = c.self.inside.bytes in
    some_wanted c.extend_from_slice.result bytes.len (length c.args.piece.now) bytes.cap bytes.ok.1 c.extend_from_slice.ensures.succeeds
