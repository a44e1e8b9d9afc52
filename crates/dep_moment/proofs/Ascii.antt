-- The text of a moment is ASCII.
use Rattle.std.proofs.Common.{ℕ, ◌+◌, ◌/◌, ◌%◌, ◌<◌, ◌≤◌, List, [], ◌∷◌, lit<, arith}
use Rattle.std.specs.Str.{IsAscii}
use Rattle.std.proofs.lemmas.Str.Ascii.{IsAscii-nil, IsAscii-cons}
use Rattle.dep_moment.specs.Civil.{civil_of, rfc3339_text}
use Rattle.dep_types.specs.Limits.{greatest_moment}
use Rattle.dep_moment.proofs.Agreement.{short_months}
use Rattle.dep_moment.proofs.Walk.{civil_of-civil}

record AllAscii (bytes : List ℕ) : Type 0 where
  is : IsAscii bytes

none : AllAscii []
none = record { is = IsAscii-nil }

more : (byte : ℕ) (rest : List ℕ) → byte < 128 → AllAscii rest → AllAscii (byte ∷ rest)
more byte rest h k = record { is = IsAscii-cons byte rest h k.is }

two : (n : ℕ) (rest : List ℕ) → n < 100 → AllAscii rest → AllAscii ((48 + n / 10) ∷ (48 + n % 10) ∷ rest)
two n rest h k = more (48 + n / 10) ((48 + n % 10) ∷ rest) (omega arith) (more (48 + n % 10) rest (omega arith) k)

pub rfc3339-ascii : (secs : ℕ) → secs ≤ greatest_moment → IsAscii (rfc3339_text secs)
unfolding rfc3339_text
rfc3339-ascii secs h =
    let is = civil_of-civil secs h in
    let c = civil_of secs in
    let all : AllAscii (rfc3339_text secs) =
    two (c.year / 100) _ (omega (arith, is.date))
    (two (c.year % 100) _ (omega arith)
    (more 45 _ (lit< tt)
    (two c.month _ (omega (arith, is.date))
    (more 45 _ (lit< tt)
    (two c.day _ (omega (arith, is.date, short_months c.year c.month))
    (more 84 _ (lit< tt)
    (two c.hour _ (omega (arith, is.time))
    (more 58 _ (lit< tt)
    (two c.minute _ (omega (arith, is.time))
    (more 58 _ (lit< tt)
    (two c.second _ (omega (arith, is.time))
    (more 90 _ (lit< tt) none)))))))))))) in
    all.is
