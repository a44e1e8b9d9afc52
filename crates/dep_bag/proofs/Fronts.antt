-- What stands behind a front.
use Rattle.std.proofs.Common.{◌≡◌, ◌≢◌, ℕ, Bool, true, false, List, [], ◌∷◌, ◌++◌, Option, Some, None, Bor, MatchOption, refl, sym, ap, ◌∙◌, append_assoc, codes, bytes_eq, T}
use Rattle.std.proofs.Math.Dec.{eqb_refl}
use Rattle.std.proofs.lemmas.List.{append_cancel_left}
use Rattle.std.specs.Option.{option_copied}
use Rattle.dep_bag.specs.Fronts.{IsBehind}
use Rattle.dep_bag.specs.Parts.{in_folder}

-- of what is lent
pub behind_lent : (front_with : List ℕ → List ℕ) (text : List ℕ) (r : Option (Bor (List ℕ)))
    → MatchOption r ((rest : List ℕ) → text ≢ front_with rest) (λ rest. text ≡ front_with rest.now) → IsBehind front_with text (option_copied r)
behind_lent front_with text None h = h
behind_lent front_with text (Some rest) h = h

regroup : (number rest : List ℕ) → (codes "data/" ++ number) ++ (codes "/" ++ rest) ≡ in_folder number rest
regroup number rest = simp append_assoc

joined : (path folder behind number : List ℕ) → path ≡ codes "data/" ++ folder → folder ≡ number ++ behind → path ≡ (codes "data/" ++ number) ++ behind
joined path folder behind number e g = e ∙ ap (λ l. codes "data/" ++ l) g ∙ simp append_assoc

-- a folder, a number, and what stands behind the slash after it
pub stripped : (path folder behind number : List ℕ) (r : Option (Bor (List ℕ))) → path ≡ codes "data/" ++ folder → folder ≡ number ++ behind
    → IsBehind (λ rest. codes "/" ++ rest) behind (option_copied r) → IsBehind (in_folder number) path (option_copied r)
stripped path folder behind number None e g h = λ name same.
    h name (append_cancel_left (codes "data/" ++ number) behind (codes "/" ++ name) (sym (joined path folder behind number e g) ∙ same ∙ sym (regroup number name)))
stripped path folder behind number (Some rest) e g h =
    joined path folder behind number e g ∙ ap (λ l. (codes "data/" ++ number) ++ l) h ∙ regroup number rest.now

same_byte : (b : Bool) → T b → b ≡ true
same_byte true h = refl
same_byte false h = absurd h

same_behind : (front a b : List ℕ) → bytes_eq a b ≡ bytes_eq (front ++ a) (front ++ b)
same_behind [] a b = refl
same_behind (x ∷ front) a b = rw (same_byte _ (eqb_refl x)) (same_behind front a b)

-- equal names in one folder are equal paths
pub same_names : (path number name other : List ℕ) → path ≡ in_folder number name → bytes_eq name other ≡ bytes_eq path (in_folder number other)
same_names path number name other e = same_behind ((codes "data/" ++ number) ++ codes "/") name other ∙ ap (λ l. bytes_eq l (in_folder number other)) (sym e)
