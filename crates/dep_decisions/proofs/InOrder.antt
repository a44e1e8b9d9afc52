-- New files take the next numbers in order.
use Rattle.std.proofs.Common.{◌≡◌, ◌≢◌, ℕ, zero, suc, ◌+◌, ◌<◌, Some, refl, ap, ◌∙◌, List, [], ◌∷◌, slice_get, arith, add-zero}
use Rattle.std.specs.FinMap as map
use Rattle.dep_types.specs.Maps.{Numbered}
use Rattle.dep_types.specs.State.{State, File}
use Rattle.dep_types.proofs.Kept.{get-insert_same, get-insert_other}
use Rattle.dep_decisions.specs.Effects.{added_from, file_from}
use Rattle.dep_decisions.specs.declared.decision.NewFile.{NewFile}

pub below_not : (q n : ℕ) → q < n → q ≢ n
below_not q n h e = omega arith

-- numbers below the first stay as they were
pub added-below : (number : ℕ) (s : State) (content : List ℕ) (new : List NewFile) (files : Numbered File) (q : ℕ) → q < number
    → map.get (added_from number s content new files) q ≡ map.get files q
unfolding added_from
added-below number s content [] files q h = refl
added-below number s content (n ∷ more) files q h =
    added-below (number + 1) s content more (map.insert files number (file_from s content n)) q (omega arith)
    ∙ get-insert_other files number (file_from s content n) q (below_not q number h)

next_after : (number i : ℕ) → number + suc i ≡ (number + 1) + i
next_after number i = omega arith

just_below : (n : ℕ) → n < n + 1
just_below n = omega arith

pub added-at : (number : ℕ) (s : State) (content : List ℕ) (new : List NewFile) (files : Numbered File) (i : ℕ) (file : NewFile) → slice_get new i ≡ Some file
    → map.get (added_from number s content new files) (number + i) ≡ Some (file_from s content file)
unfolding added_from
added-at number s content [] files i file e = absurd (cc)
added-at number s content (n ∷ more) files zero file e =
    let same : n ≡ file = cc in
    ap (map.get (added_from (number + 1) s content more (map.insert files number (file_from s content n)))) (add-zero number)
    ∙ added-below (number + 1) s content more (map.insert files number (file_from s content n)) number (just_below number)
    ∙ get-insert_same files number (file_from s content n)
    ∙ ap (λ x. Some (file_from s content x)) same
added-at number s content (n ∷ more) files (suc i) file e =
    ap (map.get (added_from (number + 1) s content more (map.insert files number (file_from s content n)))) (next_after number i)
    ∙ added-at (number + 1) s content more (map.insert files number (file_from s content n)) i file e
