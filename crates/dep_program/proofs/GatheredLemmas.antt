-- What becomes of the bytes of an outlet that gathers.
use Rattle.std.proofs.Common.{◌≡◌, ◌≢◌, ◌∙◌, ◌++◌, List, [], ℕ, Option, None, Some, Bool, true, false, inl, inr, refl, sym, ap}
use Rattle.std.proofs.lemmas.List.{append-nil}
use Rattle.std.proofs.KnownBytes.{Appends-nil}
use Rattle.std.specs.Io.KnownBytes.{Keeps, append_known}
use Rattle.dep_types.specs.Writing.{TakesPart}
use Rattle.dep_connection.specs.Flushing.{IsFlushed}

-- none of some bytes was taken
pub none_taken : (a : Option (List ℕ)) (bytes : List ℕ) → bytes ≢ [] → TakesPart a a bytes
none_taken a bytes some = ([], record { rest = bytes; joined = refl; short = some }, Appends-nil a)

true_false : ◌≡◌ {A = Bool} true false → ⊥
true_false e = cc

kept_whole : (a : Option (List ℕ)) (held : List ℕ) → held ≡ [] → Keeps (append_known a held) a
kept_whole None held none = tt
kept_whole (Some xs) held none = sym (ap (λ l. xs ++ l) none ∙ append-nil xs)

-- an outlet that is flushed and hasn't given up holds nothing back
pub all_given : (a : Option (List ℕ)) (held : List ℕ) (failed : Bool) → failed ≡ false → IsFlushed held failed → Keeps (append_known a held) a
all_given a held failed going (inl none) = kept_whole a held none
all_given a held failed going (inr gave_up) = absurd (true_false (sym gave_up ∙ going))
