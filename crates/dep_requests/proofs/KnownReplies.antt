-- What is known of a decision is what the reply to its request shows.
use Rattle.std.proofs.Common.{◌≡◌, ◌≢◌, ℕ, ◌+◌, ◌-◌, Bool, true, false, List, Option, Some, None, option_map, option_and_then, unwrap_or, refl, sym, ap, subst, ◌∙◌, arith}
use Rattle.std.specs.Prelude.{⊤, if◌then◌else◌}
use Rattle.dep_types.specs.State.{State}
use Rattle.dep_types.specs.declared.config.Config.{Config}
use Rattle.dep_types.specs.declared.counters.Counters.{Counters}
use Rattle.dep_types.specs.declared.target.Resource.{Resource}
use Rattle.dep_types.specs.declared.target.Resource.TheVariants.{Service, Object, Metadata, FileSet, File, Staging, Upload, BagList, BagFile}
use Rattle.dep_types.specs.declared.target.Method.{Method}
use Rattle.dep_types.specs.declared.target.Method.TheVariants.{Get, Head, Post, Put, Delete}
use Rattle.dep_fields.specs.declared.kind.Kind.{Kind}
use Rattle.dep_fields.specs.declared.kind.Kind.TheVariants as of
use Rattle.dep_decisions.specs.Kinds.{is_completion, content_kind}
use Rattle.dep_decisions.specs.Decisions.{decision, decision_at, decision_with, deposit_of, files_of, ingests, opened, received, references_in, replaced_file, texts_of}
use Rattle.dep_decisions.specs.Effects.{effect, effect_of}
use Rattle.dep_decisions.specs.declared.decision.Deposit.{Deposit}
use Rattle.dep_decisions.specs.declared.decision.Decision.{Decision}
use Rattle.dep_decisions.specs.declared.decision.Decision.TheVariants.{Show, Create, Append, Replace, Complete, SetMetadata, SetFiles, SetFile, DropFile, DropObject, Open, Receive, DropUpload}
use Rattle.dep_decisions.specs.declared.operation.Operation.{Operation}
use Rattle.dep_answers.specs.ReadSets.{shown_at, read_set_of}
use Rattle.dep_answers.specs.declared.read_set.ReadSet.{ReadSet}
use Rattle.dep_answers.specs.declared.read_set.ReadSet.TheVariants as read_set
use Rattle.dep_answers.specs.declared.read_set.Shown.{Shown}
use Rattle.dep_answers.specs.declared.read_set.Shown.TheVariants as shown
use Rattle.dep_requests.specs.Known.{known_shown, known_read_set}
use Rattle.dep_requests.specs.Performing.{known_at, known_by}

-- ---- what a request shows that asks for this, where it deletes nothing

module _ (config : Config) (op : Operation) where
  -- of an object that it makes, it is the last one
  abbrev MakesShown : Method → ReadSet → (next : Counters) → Decision → Type 0
  MakesShown m shows next (Create d ingests) = shows ≡ read_set.Files (next.object - 1)
  MakesShown m shows next (Replace n d ingests) = shows ≡ read_set.Files n
  MakesShown m shows next (SetMetadata n texts) = m ≢ Delete → shows ≡ read_set.ObjectRow n
  MakesShown m shows next (SetFiles n new) = m ≢ Delete → shows ≡ read_set.ObjectRow n
  MakesShown m shows next (SetFile n f new) = shows ≡ read_set.File (record { object = n; file = f })
  MakesShown m shows next _ = ⊤

  module _ (next : Counters) where
    abbrev Asked : Resource → Method → Option Decision → Type 0
    Asked r m o = MakesShown m (read_set_of next r m) next (unwrap_or o Show)

    created : (o : Option Deposit) → Asked Service Post (option_map (λ d. Create d (ingests op)) o)
    created None = tt
    created (Some d) = refl

    appended : (n : ℕ) (complete : Bool) (d : Option Deposit) → Asked (Object n) Post (if complete then Some (Complete n) else option_map (λ d. Append n d (ingests op)) d)
    appended n true d = tt
    appended n false None = tt
    appended n false (Some d) = tt

    mapped : {X : Type 0} (m : Method) (shows : ReadSet) (f : X → Decision) → ((x : X) → MakesShown m shows next (f x)) → (o : Option X) → MakesShown m shows next (unwrap_or (option_map f o) Show)
    mapped m shows f makes None = tt
    mapped m shows f makes (Some x) = makes x

    opens : (o : Option Kind) → Asked Staging Post (option_and_then opened o)
    opens None = tt
    opens (Some (of.File name)) = tt
    opens (Some of.Metadata) = tt
    opens (Some of.References) = tt
    opens (Some (of.Opening o)) = tt
    opens (Some (of.Segment k)) = tt

    replaces : (n f : ℕ) (o : Option Kind) → Asked (File n f) Put (option_and_then (replaced_file op n f) o)
    replaces n f None = tt
    replaces n f (Some (of.File name)) = refl
    replaces n f (Some of.Metadata) = tt
    replaces n f (Some of.References) = tt
    replaces n f (Some (of.Opening o)) = tt
    replaces n f (Some (of.Segment k)) = tt

    receives : (u : ℕ) (o : Option Kind) → Asked (Upload u) Post (option_and_then (received u) o)
    receives u None = tt
    receives u (Some (of.File name)) = tt
    receives u (Some of.Metadata) = tt
    receives u (Some of.References) = tt
    receives u (Some (of.Opening o)) = tt
    receives u (Some (of.Segment k)) = tt

    asked : (r : Resource) (m : Method) → Asked r m (decision_at (references_in config op) op r m)
    asked Service Post = created (deposit_of (references_in config op) op)
    asked Service Get = tt
    asked Service Head = tt
    asked Service Put = tt
    asked Service Delete = tt
    asked (Object n) Post = appended n (is_completion op) (deposit_of (references_in config op) op)
    asked (Object n) Put = mapped Put (read_set.Files n) (λ d. Replace n d (ingests op)) (λ d. refl) (deposit_of (references_in config op) op)
    asked (Object n) Delete = tt
    asked (Object n) Get = tt
    asked (Object n) Head = tt
    asked (Metadata n) Put = mapped Put (read_set.ObjectRow n) (λ texts. SetMetadata n texts) (λ texts kept. refl) (option_and_then texts_of (deposit_of (references_in config op) op))
    asked (Metadata n) Delete = λ kept. absurd (kept refl)
    asked (Metadata n) Get = tt
    asked (Metadata n) Head = tt
    asked (Metadata n) Post = tt
    asked (FileSet n) Put = mapped Put (read_set.ObjectRow n) (λ files. SetFiles n files) (λ files kept. refl) (option_and_then files_of (deposit_of (references_in config op) op))
    asked (FileSet n) Delete = λ kept. absurd (kept refl)
    asked (FileSet n) Get = tt
    asked (FileSet n) Head = tt
    asked (FileSet n) Post = tt
    asked (File n f) Put = replaces n f (content_kind op)
    asked (File n f) Delete = tt
    asked (File n f) Get = tt
    asked (File n f) Head = tt
    asked (File n f) Post = tt
    asked Staging Post = opens (content_kind op)
    asked Staging Get = tt
    asked Staging Head = tt
    asked Staging Put = tt
    asked Staging Delete = tt
    asked (Upload u) Post = receives u (content_kind op)
    asked (Upload u) Delete = tt
    asked (Upload u) Get = tt
    asked (Upload u) Head = tt
    asked (Upload u) Put = tt
    asked (BagList n) method = tt
    asked (BagFile n path) method = tt

    decided : MakesShown op.target.method (read_set_of next op.target.resource op.target.method) next (decision config op)
    unfolding decision_with
    decided = asked op.target.resource op.target.method

-- the number that was next before it
last : (n : ℕ) → n + 1 - 1 ≡ n
last n = omega arith

-- ---- so what is known is what is shown

module _ (config : Config) (s : State) (op : Operation) (kept : op.target.method ≢ Delete) where
  abbrev shows : (next : Counters) → ReadSet
  shows next = read_set_of next op.target.resource op.target.method

  -- what is known stands where the reply looks
  abbrev IsLookedAt : Decision → Type 0
  IsLookedAt d = (sub : ReadSet) → known_read_set s.next d ≡ Some sub → shows (effect_of s op.content d).next ≡ sub

  looked_at : (d : Decision) → MakesShown config op op.target.method (shows (effect_of s op.content d).next) (effect_of s op.content d).next d → IsLookedAt d
  looked_at (Create d ingests) makes sub is = let same : read_set.Files s.next.object ≡ sub = cc in makes ∙ ap (λ (n : ℕ). read_set.Files n) (last s.next.object) ∙ same
  looked_at (Replace n d ingests) makes sub is = let same : read_set.Files n ≡ sub = cc in makes ∙ same
  looked_at (SetMetadata n texts) makes sub is = let same : read_set.ObjectRow n ≡ sub = cc in makes kept ∙ same
  looked_at (SetFiles n new) makes sub is = let same : read_set.ObjectRow n ≡ sub = cc in makes kept ∙ same
  looked_at (SetFile n f new) makes sub is = let same : read_set.File (record { object = n; file = f }) ≡ sub = cc in makes ∙ same
  looked_at Show makes sub is = absurd (cc)
  looked_at (Append n d ingests) makes sub is = absurd (cc)
  looked_at (Complete n) makes sub is = absurd (cc)
  looked_at (DropFile n f) makes sub is = absurd (cc)
  looked_at (DropObject n) makes sub is = absurd (cc)
  looked_at (Open o) makes sub is = absurd (cc)
  looked_at (Receive u k) makes sub is = absurd (cc)
  looked_at (DropUpload u) makes sub is = absurd (cc)

  known_shows : (d : Decision) (reported : Shown) → d ≡ decision config op → Some reported ≡ known_shown s op.content d
      → reported ≡ shown_at (effect config s op) (shows (effect config s op).next)
  unfolding effect
  known_shows d reported is known =
      let makes = subst (MakesShown config op op.target.method (shows (effect_of s op.content d).next) (effect_of s op.content d).next) (sym is) (decided config op (effect_of s op.content d).next) in
      go (known_read_set s.next d) refl known (looked_at d makes)
      ∙ ap (λ (x : Decision). shown_at (effect_of s op.content x) (shows (effect_of s op.content x).next)) is
    where
      go : (k : Option ReadSet) → known_read_set s.next d ≡ k → Some reported ≡ option_map (shown_at (effect_of s op.content d)) k → IsLookedAt d
          → reported ≡ shown_at (effect_of s op.content d) (shows (effect_of s op.content d).next)
      go None at has looked = absurd (cc)
      go (Some sub) at has looked =
          let same : reported ≡ shown_at (effect_of s op.content d) sub = cc in
          same ∙ ap (shown_at (effect_of s op.content d)) (sym (looked sub at))

-- of a request that deletes, nothing is shown
no_read_set : (next : Counters) (r : Resource) → read_set_of next r Delete ≡ read_set.Nothing
no_read_set next Service = refl
no_read_set next (Object n) = refl
no_read_set next (Metadata n) = refl
no_read_set next (FileSet n) = refl
no_read_set next (File n f) = refl
no_read_set next Staging = refl
no_read_set next (Upload u) = refl
no_read_set next (BagList n) = refl
no_read_set next (BagFile n path) = refl

deleted : (s : State) (r : Resource) (m : Method) → m ≡ Delete → shown.Nothing ≡ shown_at s (read_set_of s.next r m)
deleted s r m is =
    ap (shown_at s) (sym (no_read_set s.next r)) ∙ ap (λ (x : Method). shown_at s (read_set_of s.next r x)) (sym is)

module _ (config : Config) (s : State) (op : Operation) (d : Decision) (reported : Shown) (is : d ≡ decision config op) where
  pub known_shown_by : Some reported ≡ known_by s op d → reported ≡ shown_at (effect config s op) (read_set_of (effect config s op).next op.target.resource op.target.method)
  known_shown_by known = go op.target.method refl known
    where
      still : op.target.method ≢ Delete → Some reported ≡ known_shown s op.content d → reported ≡ shown_at (effect config s op) (read_set_of (effect config s op).next op.target.resource op.target.method)
      still kept has = known_shows config s op kept d reported is has

      go : (m : Method) → op.target.method ≡ m → Some reported ≡ known_at s op.content d m → reported ≡ shown_at (effect config s op) (read_set_of (effect config s op).next op.target.resource op.target.method)
      go Delete at has = let same : reported ≡ shown.Nothing = cc in same ∙ deleted (effect config s op) op.target.resource op.target.method at
      go Get at has = still (λ (not : op.target.method ≡ Delete). let both : Get ≡ Delete = sym at ∙ not in cc both) has
      go Head at has = still (λ (not : op.target.method ≡ Delete). let both : Head ≡ Delete = sym at ∙ not in cc both) has
      go Post at has = still (λ (not : op.target.method ≡ Delete). let both : Post ≡ Delete = sym at ∙ not in cc both) has
      go Put at has = still (λ (not : op.target.method ≡ Delete). let both : Put ≡ Delete = sym at ∙ not in cc both) has

-- another method doesn't delete
pub not_deleted : (s : State) (content : List ℕ) (d : Decision) (m : Method) → m ≢ Delete → known_shown s content d ≡ known_at s content d m
not_deleted s content d Delete kept = absurd (kept refl)
not_deleted s content d Get kept = refl
not_deleted s content d Head kept = refl
not_deleted s content d Post kept = refl
not_deleted s content d Put kept = refl
