-- A file stays unless it, the files of its object or its object are put or deleted.
use Rattle.std.proofs.Common.{◌≡◌, ◌≢◌, ◌∙◌, ℕ, ◌==◌, ◌<◌, ◌&&◌, Bool, true, false, List, Option, Some, None, option_map, option_and_then, unwrap_or, if◌then◌else◌, cond, refl, sym, ap, subst}
use Rattle.std.specs.FinMap as map
use Rattle.std.specs.Cmp.{nat_cmp_total}
use Rattle.std.proofs.lemmas.Bool.{eqb-true, eq-eqb}
use Rattle.dep_types.specs.Maps.{Numbered}
use Rattle.dep_types.specs.State.{State, Object, File, file_at}
use Rattle.dep_types.specs.Sound.{IsSound}
use Rattle.dep_types.specs.declared.config.Config.{Config}
use Rattle.dep_types.specs.declared.target.Resource.{Resource}
use Rattle.dep_types.specs.declared.target.Resource.TheVariants as at_resource
use Rattle.dep_types.specs.declared.target.Method.{Method}
use Rattle.dep_types.specs.declared.target.Method.TheVariants.{Post, Put, Delete}
use Rattle.dep_types.proofs.Kept.{get-insert_same, get-insert_other, tied}
use Rattle.dep_fields.specs.declared.kind.Kind.{Kind}
use Rattle.dep_fields.specs.declared.kind.Kind.TheVariants as of
use Rattle.dep_docs_in.specs.declared.reference.Reference.{Reference}
use Rattle.dep_decisions.specs.Kinds.{content_kind, is_completion}
use Rattle.dep_decisions.specs.Decisions.{decision_at, decision_with, deposit_of, files_of, ingests, opened, received, references_in, replaced_file, texts_of}
use Rattle.dep_decisions.specs.Effects.{appended, at, changed, effect, file_from, filled, ingested_by, objects_after, with_other_files, with_other_texts}
use Rattle.dep_decisions.specs.declared.operation.Operation.{Operation}
use Rattle.dep_decisions.specs.declared.decision.Deposit.{Deposit}
use Rattle.dep_decisions.specs.declared.decision.Deposit.TheVariants.{Files, Metadata}
use Rattle.dep_decisions.specs.declared.decision.Decision.{Decision}
use Rattle.dep_decisions.specs.declared.decision.Decision.TheVariants.{Show, Create, Append, Replace, Complete, SetMetadata, SetFiles, SetFile, DropFile, DropObject}
use Rattle.dep_decisions.specs.Laws.{puts_or_deletes, has_file_in, takes_file}
use Rattle.dep_decisions.proofs.FoundInMaps.{at-some, at-none}
use Rattle.dep_decisions.proofs.InOrder.{added-below, below_not}
use Rattle.dep_decisions.proofs.SoundParts.{file_of_object, object_there}

-- numbers that are not the same
apart_by : (k n : ℕ) → (k == n) ≡ false → n ≢ k
apart_by k n e same = (let on : (k == n) ≡ true = eq-eqb k n (sym same) in cc)

apart_if_same : (k n g f : ℕ) → ((k == n) && (g == f)) ≡ false → n ≡ k → f ≢ g
apart_if_same k n g f e same is = (let on : (k == n) ≡ true = eq-eqb k n (sym same) in let too : (g == f) ≡ true = eq-eqb g f (sym is) in cc)

get-remove_other : {X : Type 0} (m : Numbered X) (k q : ℕ) → q ≢ k → map.get (map.remove m k) q ≡ map.get m q
get-remove_other m k q apart = map.get-remove nat_cmp_total m k q ∙ ap (λ (b : Bool). cond b None (map.get m q)) (tied q k apart)

-- ---- in the map of objects

module _ (n f : ℕ) (file : File) where
  abbrev Has : Object → Type 0
  Has o = map.get o.files f ≡ Some file

  abbrev HasFile : Numbered Object → Type 0
  HasFile m = option_and_then (λ (o : Object). map.get o.files f) (map.get m n) ≡ Some file

  -- the map finds the same there
  same_there : (m k : Numbered Object) → map.get k n ≡ map.get m n → HasFile m → HasFile k
  same_there m k e h = ap (option_and_then (λ (o : Object). map.get o.files f)) e ∙ h

  -- the object there has the file
  put_there : (m : Numbered Object) (x : Object) → Has x → HasFile (map.insert m n x)
  put_there m x h = ap (option_and_then (λ (o : Object). map.get o.files f)) (get-insert_same m n x) ∙ h

  beside : (m : Numbered Object) (k : ℕ) (x : Object) → n ≢ k → HasFile m → HasFile (map.insert m k x)
  beside m k x apart h = same_there m (map.insert m k x) (get-insert_other m k x n apart) h

  -- another object is changed
  other_changed : (m : Numbered Object) (k : ℕ) (change : Object → Object) (o : Option Object) → map.get m k ≡ o → n ≢ k → HasFile m → HasFile (at m k change)
  other_changed m k change None e apart h = subst (λ (x : Numbered Object). HasFile x) (sym (at-none m k change e)) h
  other_changed m k change (Some x) e apart h = subst (λ (y : Numbered Object). HasFile y) (sym (at-some m k change x e)) (beside m k (change x) apart h)

  -- the object itself is changed, and keeps the file
  itself_changed : (m : Numbered Object) (change : Object → Object) → ((o : Object) → Has o → Has (change o)) → HasFile m → HasFile (at m n change)
  itself_changed m change keeps h =
      let o = object_there (map.get m n) f file h in
      subst (λ (y : Numbered Object). HasFile y) (sym (at-some m n change o.0 o.1)) (put_there m (change o.0) (keeps o.0 (file_of_object o.0 f file o.1 h)))

  changed_at : (m : Numbered Object) (k : ℕ) (change : Object → Object) (b : Bool) → (n == k) ≡ b
      → (n ≡ k → (o : Object) → Has o → Has (change o)) → HasFile m → HasFile (at m k change)
  changed_at m k change true e keeps h =
      let same : n ≡ k = eqb-true n k e in
      subst (λ (q : ℕ). HasFile (at m q change)) same (itself_changed m change (keeps same) h)
  changed_at m k change false e keeps h = other_changed m k change (map.get m k) refl (λ same. (let on : (n == k) ≡ true = eq-eqb n k same in cc)) h

  removed : (m : Numbered Object) (k : ℕ) → n ≢ k → HasFile m → HasFile (map.remove m k)
  removed m k apart h = same_there m (map.remove m k) (get-remove_other m k n apart) h

-- ---- by a decision

module _ (s : State) (content : List ℕ) (n f : ℕ) (file : File) (low : f < s.next.file) (given : n < s.next.object) where
  -- new files take numbers above it
  appended_has : (d : Deposit) (ingests : Bool) (o : Object) → Has n f file o → Has n f file (ingested_by ingests (appended s content d o))
  appended_has (Files new) ingests o h = added-below s.next.file s content new o.files f low ∙ h
  appended_has (Metadata texts) ingests o h = h

  -- what a decision must not be of
  abbrev Spares : Decision → Type 0
  Spares (Replace k d ingests) = n ≢ k
  Spares (SetFiles k new) = n ≢ k
  Spares (SetFile k g new) = n ≡ k → f ≢ g
  Spares (DropFile k g) = n ≡ k → f ≢ g
  Spares (DropObject k) = n ≢ k
  Spares _ = Unit {0}

  kept : (d : Decision) → Spares d → HasFile n f file s.objects → HasFile n f file (objects_after s content d)
  kept (Create d ingests) spares h = beside n f file s.objects s.next.object (filled s content d ingests) (below_not n s.next.object given) h
  kept (Append k d ingests) spares h =
      changed_at n f file s.objects k (λ o. ingested_by ingests (appended s content d o)) (n == k) refl (λ same. appended_has d ingests) h
  kept (Replace k d ingests) spares h = changed_at n f file s.objects k _ (n == k) refl (λ same. absurd (spares same)) h
  kept (Complete k) spares h = changed_at n f file s.objects k (λ o. ingested_by true (changed s o)) (n == k) refl (λ same o has. has) h
  kept (SetMetadata k texts) spares h = changed_at n f file s.objects k (with_other_texts s texts) (n == k) refl (λ same o has. has) h
  kept (SetFiles k new) spares h = changed_at n f file s.objects k _ (n == k) refl (λ same. absurd (spares same)) h
  kept (SetFile k g new) spares h =
      changed_at n f file s.objects k (λ o. with_other_files s (map.insert o.files g (file_from s content new)) o) (n == k) refl
      (λ same o has. get-insert_other o.files g (file_from s content new) f (spares same) ∙ has) h
  kept (DropFile k g) spares h =
      changed_at n f file s.objects k (λ o. with_other_files s (map.remove o.files g) o) (n == k) refl
      (λ same o has. get-remove_other o.files g f (spares same) ∙ has) h
  kept (DropObject k) spares h = removed n f file s.objects k spares h
  kept _ spares h = h

  -- ---- by what is asked for

  spared_map : {X : Type 0} (o : Option X) (of_one : X → Decision) → ((x : X) → Spares (of_one x)) → Spares (unwrap_or (option_map of_one o) Show)
  spared_map None of_one spares = tt
  spared_map (Some x) of_one spares = spares x

  spared_deposit : (b : Bool) (k : ℕ) (o : Option Deposit) (op : Operation)
      → Spares (unwrap_or (if b then Some (Complete k) else option_map (λ d. Append k d (ingests op)) o) Show)
  spared_deposit true k o op = tt
  spared_deposit false k o op = spared_map o (λ d. Append k d (ingests op)) (λ d. tt)

  spared_file : (op : Operation) (k g : ℕ) (o : Option Kind) → (n ≡ k → f ≢ g) → Spares (unwrap_or (option_and_then (replaced_file op k g) o) Show)
  spared_file op k g (Some (of.File name)) apart = apart
  spared_file op k g _ apart = tt

  spared_opening : (o : Option Kind) → Spares (unwrap_or (option_and_then opened o) Show)
  spared_opening (Some (of.Opening o)) = tt
  spared_opening _ = tt

  spared_segment : (u : ℕ) (o : Option Kind) → Spares (unwrap_or (option_and_then (received u) o) Show)
  spared_segment u (Some (of.Segment j)) = tt
  spared_segment u _ = tt

  spared : (refs : Option (List Reference)) (op : Operation) (r : Resource) (m : Method) → (puts_or_deletes m && has_file_in n f r) ≡ false
      → Spares (unwrap_or (decision_at refs op r m) Show)
  spared refs op at_resource.Service Post e = spared_map (deposit_of refs op) (λ d. Create d (ingests op)) (λ d. tt)
  spared refs op (at_resource.Object k) Post e = spared_deposit (is_completion op) k (deposit_of refs op) op
  spared refs op (at_resource.Object k) Put e = spared_map (deposit_of refs op) (λ d. Replace k d (ingests op)) (λ d. apart_by k n e)
  spared refs op (at_resource.Object k) Delete e = apart_by k n e
  spared refs op (at_resource.Metadata k) Put e = spared_map (option_and_then texts_of (deposit_of refs op)) (λ texts. SetMetadata k texts) (λ texts. tt)
  spared refs op (at_resource.FileSet k) Put e = spared_map (option_and_then files_of (deposit_of refs op)) (λ new. SetFiles k new) (λ new. apart_by k n e)
  spared refs op (at_resource.FileSet k) Delete e = apart_by k n e
  spared refs op (at_resource.File k g) Put e = spared_file op k g (content_kind op) (apart_if_same k n g f e)
  spared refs op (at_resource.File k g) Delete e = apart_if_same k n g f e
  spared refs op at_resource.Staging Post e = spared_opening (content_kind op)
  spared refs op (at_resource.Upload u) Post e = spared_segment u (content_kind op)
  spared refs op _ _ e = tt

  kept_by : (refs : Option (List Reference)) (op : Operation) → takes_file n f op.target ≡ false → HasFile n f file s.objects
      → HasFile n f file (objects_after s content (decision_with refs op))
  unfolding decision_with
  kept_by refs op e h = kept (unwrap_or (decision_at refs op op.target.resource op.target.method) Show) (spared refs op op.target.resource op.target.method e) h

pub file_stays : (config : Config) (s : State) (op : Operation) (n f : ℕ) (file : File) → IsSound s → file_at s n f ≡ Some file
    → takes_file n f op.target ≡ false → file_at (effect config s op) n f ≡ Some file
unfolding effect
file_stays config s op n f file sound there e =
    let o = object_there (map.get s.objects n) f file there in
    let is = sound.objects n o.0 o.1 in
    kept_by s op.content n f file (is.files f file (file_of_object o.0 f file o.1 there)).number_given.below is.number_given.below (references_in config op) op e there
