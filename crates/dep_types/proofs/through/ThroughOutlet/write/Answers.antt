use Rattle.std.proofs.Common.{◌≡◌, ◌++◌, ◌-◌, ◌∙◌, List, [], ℕ, refl, sym, ap, arith, length, take, drop, append_assoc, length-drop}
use Rattle.std.proofs.lemmas.List.{take_all, take-append-drop}
use Rattle.std.proofs.KnownBytes.{Appends-nil, Appends-trans}
use Rattle.dep_types.proofs.through.ThroughOutlet.write.Goals as goal

-- what is left after the first n bytes of the rest
cut : (bytes front rest : List ℕ) (n : ℕ) → bytes ≡ front ++ rest → bytes ≡ (front ++ take n rest) ++ take (length rest - n) (drop n rest)
cut bytes front rest n h =
    let whole : take (length rest - n) (drop n rest) ≡ drop n rest = take_all _ _ (omega (arith, length-drop n rest)) in
    rw whole (h ∙ ap (λ t. front ++ t) (sym (take-append-drop n rest)) ∙ sym (append_assoc front (take n rest) (drop n rest)))

pub loop-rest-init : goal.loop-rest-init
loop-rest-init g c = (([], refl, Appends-nil _), refl)

pub loop-rest-preserved : goal.loop-rest-preserved
loop-rest-preserved g c =
    let before = c.loop-rest.invariant in
    let took = rw c.in-Ok.is at c.write.ensures.bytes in (
      (before.0.0 ++ take c.in-Ok.n c.loop-rest.rest.now, cut _ _ _ c.in-Ok.n before.0.1, Appends-trans _ _ _ _ _ before.0.2 took),
      before.1,
    )
