-- An object that is ingested stays so.
use Rattle.std.proofs.Common.{◌≡◌, ◌∙◌, ◌⊎◌, inl, inr, ℕ, ◌<◌, ◌||◌, Bool, true, false, List, Some, refl, sym, ap}
use Rattle.std.specs.FinMap as map
use Rattle.dep_types.specs.State.{State, Object}
use Rattle.dep_types.proofs.Kept.{found}
use Rattle.dep_decisions.specs.Effects.{appended, at, changed, effect_of, filled, ingested_by, with_other_files, with_other_texts, files_added, file_from}
use Rattle.dep_decisions.specs.declared.decision.Deposit.{Deposit}
use Rattle.dep_decisions.specs.declared.decision.Deposit.TheVariants.{Files, Metadata}
use Rattle.dep_decisions.specs.declared.decision.Decision.{Decision}
use Rattle.dep_decisions.specs.declared.decision.Decision.TheVariants.{Create, Append, Replace, Complete, SetMetadata, SetFiles, SetFile, DropFile, DropObject}
use Rattle.dep_decisions.proofs.FoundInMaps.{left-was}
use Rattle.dep_decisions.proofs.GivenOnce.{at-found}
use Rattle.dep_decisions.proofs.InOrder.{below_not}

same_one : {X : Type 0} (x y : X) → Some x ≡ Some y → x ≡ y
same_one x y e = cc e

either_true : (a b : Bool) → a ≡ true → (a || b) ≡ true
either_true true b e = refl
either_true false b e = absurd (cc)

filled_ingested : (s : State) (content : List ℕ) (d : Deposit) (ingested : Bool) → ingested ≡ true → (filled s content d ingested).ingested ≡ true
filled_ingested s content (Files new) ingested e = e
filled_ingested s content (Metadata texts) ingested e = e

appended_ingested : (s : State) (content : List ℕ) (d : Deposit) (ingests : Bool) (o : Object) → o.ingested ≡ true
    → (ingested_by ingests (appended s content d o)).ingested ≡ true
appended_ingested s content (Files new) ingests o e = either_true o.ingested ingests e
appended_ingested s content (Metadata texts) ingests o e = either_true o.ingested ingests e

module _ (s : State) (content : List ℕ) (n : ℕ) (o now : Object) (was : map.get s.objects n ≡ Some o) (is : o.ingested ≡ true) where
  unchanged : map.get s.objects n ≡ Some now → now.ingested ≡ true
  unchanged e = ap (λ (x : Object). x.ingested) (sym (same_one o now (sym was ∙ e))) ∙ is

  changed_so : (k : ℕ) (f : Object → Object) → ((y : Object) → y.ingested ≡ true → (f y).ingested ≡ true) → map.get (at s.objects k f) n ≡ Some now → now.ingested ≡ true
  changed_so k f stays e = one_of (at-found s.objects k f n now e) where
    one_of : ((y : Object) × (map.get s.objects n ≡ Some y) × (n ≡ k) × (now ≡ f y)) ⊎ (map.get s.objects n ≡ Some now) → now.ingested ≡ true
    one_of (inl c) = ap (λ (x : Object). x.ingested) c.3 ∙ stays c.0 (ap (λ (x : Object). x.ingested) (sym (same_one o c.0 (sym was ∙ c.1))) ∙ is)
    one_of (inr same) = unchanged same

  created : n < s.next.object → (x : Object) → ((n ≡ s.next.object) × (now ≡ x)) ⊎ (map.get s.objects n ≡ Some now) → now.ingested ≡ true
  created low x (inl new) = absurd (below_not n s.next.object low new.0)
  created low x (inr same) = unchanged same

  pub stays_ingested : n < s.next.object → (d : Decision) → map.get (effect_of s content d).objects n ≡ Some now → now.ingested ≡ true
  stays_ingested low (Create d ingests) e = created low (filled s content d ingests) (found s.objects s.next.object (filled s content d ingests) n now e)
  stays_ingested low (Append k d ingests) e = changed_so k (λ o. ingested_by ingests (appended s content d o)) (appended_ingested s content d ingests) e
  stays_ingested low (Replace k d ingests) e = changed_so k (λ o. filled s content d (o.ingested || ingests)) (λ y h. filled_ingested s content d (y.ingested || ingests) (either_true y.ingested ingests h)) e
  stays_ingested low (Complete k) e = changed_so k (λ o. ingested_by true (changed s o)) (λ y h. either_true y.ingested true h) e
  stays_ingested low (SetMetadata k texts) e = changed_so k (with_other_texts s texts) (λ y h. h) e
  stays_ingested low (SetFiles k new) e = changed_so k (with_other_files s (files_added s content new map.empty)) (λ y h. h) e
  stays_ingested low (SetFile k f new) e = changed_so k (λ o. with_other_files s (map.insert o.files f (file_from s content new)) o) (λ y h. h) e
  stays_ingested low (DropFile k f) e = changed_so k (λ o. with_other_files s (map.remove o.files f) o) (λ y h. h) e
  stays_ingested low (DropObject k) e = unchanged (left-was s.objects k n now e)
  stays_ingested low _ e = unchanged e
