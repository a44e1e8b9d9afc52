-- A decision that adds to an object leaves the files it had in front, and puts new ones behind.
use Rattle.std.proofs.Common.{◌≡◌, ◌∙◌, ◌⊎◌, inl, inr, ℕ, ◌+◌, ◌<◌, Bool, true, false, cond, List, [], ◌∷◌, ◌++◌, Some, Option, IfSome, refl, sym, ap, subst, nat_cmp, Greater, is_eq, append-nil, append_assoc, arith}
use Rattle.std.proofs.lemmas.Bool.Decides.{nat_tests}
use Rattle.std.specs.Cmp.{nat_cmp_total, tied_itself}
use Rattle.std.specs.FinMap as map
use Rattle.std.specs.FinMap.Entries.{put, find, by_order}
use Rattle.dep_types.specs.Maps.{Numbered, ◌>>=◌}
use Rattle.dep_types.specs.State.{State, Object, File}
use Rattle.dep_types.specs.Sound.{IsSound}
use Rattle.dep_types.proofs.Kept.{found}
use Rattle.dep_decisions.specs.Effects.{added_from, appended, at, changed, effect_of, file_from, ingested_by}
use Rattle.dep_decisions.specs.declared.decision.Decision.{Decision}
use Rattle.dep_decisions.specs.declared.decision.NewFile.{NewFile}
use Rattle.dep_decisions.specs.declared.decision.Deposit.{Deposit}
use Rattle.dep_decisions.specs.declared.decision.Deposit.TheVariants.{Files, Metadata}
use Rattle.dep_decisions.specs.declared.decision.Decision.TheVariants.{Show, Append, Complete}
use Rattle.dep_decisions.proofs.GivenOnce.{at-found}
use Rattle.dep_types.specs.declared.rows.ObjectRow.{ObjectRow}
use Rattle.dep_row_maps.specs.Stored.{HasRow}
use Rattle.dep_files.specs.Ahead.{AddsFiles}
use Rattle.dep_views.specs.Ahead.{AddsTo}
use Rattle.dep_requests.specs.Known.{row_left}
use Rattle.dep_requests.proofs.KnownShown.{has_known}

-- ---- one entry behind

above : (a b : ℕ) → b < a → nat_cmp a b ≡ Greater
above a b low = grind (arith, nat_tests)

module _ {X : Type 0} where
  -- each number that is found in the entries is below this one
  abbrev AreBelow : ℕ → List (ℕ × X) → Type 0
  AreBelow k es = (q : ℕ) (y : X) → find nat_cmp q es ≡ Some y → q < k

  first_below : (k : ℕ) (e : ℕ × X) (es : List (ℕ × X)) → AreBelow k (e ∷ es) → e.0 < k
  first_below k e es low = low e.0 e.1 (ap (λ o. cond (is_eq o) (Some e.1) (find nat_cmp e.0 es)) (tied_itself nat_cmp_total e.0))

  rest_below : (k : ℕ) (e : ℕ × X) (es : List (ℕ × X)) → AreBelow k (e ∷ es) → AreBelow k es
  rest_below k e es low q y there = go (is_eq (nat_cmp q e.0)) refl where
    go : (b : Bool) → is_eq (nat_cmp q e.0) ≡ b → q < k
    go true tied = low q e.1 (ap (λ b. cond b (Some e.1) (find nat_cmp q es)) tied)
    go false apart = low q y (ap (λ b. cond b (Some e.1) (find nat_cmp q es)) apart ∙ there)

  pub put_behind : (k : ℕ) (x : X) (es : List (ℕ × X)) → ((q : ℕ) (y : X) → find nat_cmp q es ≡ Some y → q < k)
      → put nat_cmp k x es ≡ es ++ (k, x) ∷ []
  put_behind k x [] low = refl
  put_behind k x (e ∷ es) low =
      ap (λ o. by_order o ((k, x) ∷ e ∷ es) ((e.0, x) ∷ es) (e ∷ put nat_cmp k x es)) (above k e.0 (first_below k e es low))
      ∙ ap (λ rest. e ∷ rest) (put_behind k x es (rest_below k e es low))

  pub insert_behind : (m : Numbered X) (k : ℕ) (x : X) → ((q : ℕ) (y : X) → map.get m q ≡ Some y → q < k)
      → map.entries (map.insert m k x) ≡ map.entries m ++ (k, x) ∷ []
  insert_behind m k x low =
      map.entries-insert nat_cmp_total m k x ∙ put_behind k x (map.entries m) (λ q y there. low q y (map.get-entries m q ∙ there))

-- ---- new files

-- once one more stands at this number, all are below the next
below_next : {X : Type 0} (m : Numbered X) (k : ℕ) (x : X) → ((q : ℕ) (y : X) → map.get m q ≡ Some y → q < k)
    → (q : ℕ) (y : X) → map.get (map.insert m k x) q ≡ Some y → q < k + 1
below_next m k x low q y there = go (found m k x q y there) where
  go : ((q ≡ k) × (y ≡ x)) ⊎ (map.get m q ≡ Some y) → q < k + 1
  go (inl new) = omega (arith, new.0)
  go (inr was) = let before = low q y was in omega (arith, before)

pub added_behind : (s : State) (content : List ℕ) (new : List NewFile) (number : ℕ) (files : Numbered File)
    → ((f : ℕ) (it : File) → map.get files f ≡ Some it → f < number)
    → (added : List (ℕ × File)) × (map.entries (added_from number s content new files) ≡ map.entries files ++ added)
unfolding added_from
added_behind s content [] number files low = ([], sym (append-nil (map.entries files)))
added_behind s content (n ∷ more) number files low =
    let it = file_from s content n in
    let later = added_behind s content more (number + 1) (map.insert files number it) (below_next files number it low) in (
      (number, it) ∷ later.0,
      later.1 ∙ ap (λ es. es ++ later.0) (insert_behind files number it low) ∙ append_assoc (map.entries files) ((number, it) ∷ []) later.0,
    )

-- ---- decisions

-- the files of the one stand in front in the other
abbrev IsAddedTo : Object → Object → Type 0
IsAddedTo before after = (added : List (ℕ × File)) × (map.entries after.files ≡ map.entries before.files ++ added)

same_one : {X : Type 0} (x y : X) → Some x ≡ Some y → x ≡ y
same_one x y e = cc e

adds_none : (o : Object) → IsAddedTo o o
adds_none o = ([], sym (append-nil (map.entries o.files)))

module _ (s : State) (n : ℕ) (before after : Object) (was : map.get s.objects n ≡ Some before) where
  unchanged_adds : map.get s.objects n ≡ Some after → IsAddedTo before after
  unchanged_adds e = subst (λ (o : Object). IsAddedTo before o) (same_one before after (sym was ∙ e)) (adds_none before)

  -- what is changed at a number adds, so the object there does, and others stay
  at_adds : (m : ℕ) (change : Object → Object) → IsAddedTo before (change before) → map.get (at s.objects m change) n ≡ Some after → IsAddedTo before after
  at_adds m change adds e = go (at-found s.objects m change n after e) where
    go : ((o : Object) × (map.get s.objects n ≡ Some o) × (n ≡ m) × (after ≡ change o)) ⊎ (map.get s.objects n ≡ Some after) → IsAddedTo before after
    go (inl is) =
        let same : change before ≡ after = ap change (same_one before is.0 (sym was ∙ is.1)) ∙ sym is.3 in
        subst (λ (o : Object). IsAddedTo before o) same adds
    go (inr still) = unchanged_adds still

appended_adds : (s : State) (content : List ℕ) (deposit : Deposit) (ingests : Bool) (o : Object)
    → ((f : ℕ) (it : File) → map.get o.files f ≡ Some it → f < s.next.file) → IsAddedTo o (ingested_by ingests (appended s content deposit o))
appended_adds s content (Files new) ingests o low = added_behind s content new s.next.file o.files low
appended_adds s content (Metadata texts) ingests o low = adds_none o

-- so of the object of a row that is known afterwards
pub known_adds : (s : State) → IsSound s → (content : List ℕ) (d : Decision) (seen known : Option ObjectRow) → known ≡ (seen >>= row_left s content d)
    → IfSome seen (HasRow s) → AddsTo s (effect_of s content d) seen known
known_adds s sound content d seen known is has was now looked left =
    let found : Some now ≡ row_left s content d was = sym left ∙ is ∙ ap (λ (x : Option ObjectRow). x >>= row_left s content d) looked in (
      subst (λ (x : Option ObjectRow). IfSome x (HasRow s)) looked has,
      subst (λ (x : Option ObjectRow). IfSome x (HasRow (effect_of s content d))) left (has_known s content d seen known is),
      adds d found,
    )
  where
    adds : (x : Decision) → Some now ≡ row_left s content x was → AddsFiles s (effect_of s content x) was.object
    adds Show e before after there e2 = unchanged_adds s was.object before after there e2
    adds (Append m deposit ingests) e before after there e2 =
        at_adds s was.object before after there m (λ o. ingested_by ingests (appended s content deposit o))
        (appended_adds s content deposit ingests before (λ f it at. ((sound.objects was.object before there).files f it at).number_given.below)) e2
    adds (Complete m) e before after there e2 = at_adds s was.object before after there m (λ o. ingested_by true (changed s o)) (adds_none before) e2
    adds _ e before after there e2 = absurd (cc)
