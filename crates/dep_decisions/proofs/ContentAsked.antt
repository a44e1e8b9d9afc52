-- What a request asks for, by the kind of its content.
use Rattle.std.proofs.Common.{◌≡◌, ◌∙◌, ℕ, Bool, true, false, List, [], ◌∷◌, Option, Some, None, option_map, option_and_then, unwrap_or, if◌then◌else◌, refl, sym, ap}
use Rattle.dep_types.specs.State.{Texts}
use Rattle.dep_types.specs.declared.target.Resource.{Resource}
use Rattle.dep_types.specs.declared.target.Resource.TheVariants.{Service, Object, Metadata, FileSet, File, Staging, Upload}
use Rattle.dep_types.specs.declared.target.Method.{Method}
use Rattle.dep_types.specs.declared.target.Method.TheVariants.{Post, Put, Delete}
use Rattle.dep_fields.specs.declared.kind.Kind.{Kind}
use Rattle.dep_fields.specs.declared.kind.Opening.{Opening}
use Rattle.dep_fields.specs.declared.kind.Kind.TheVariants as of
use Rattle.dep_docs_in.specs.Documents.{metadata_read}
use Rattle.dep_docs_in.specs.declared.reference.Reference.{Reference}
use Rattle.dep_decisions.specs.Asked.{asked_at, deposited_in, filed_in, received_in, undeposited_in}
use Rattle.dep_decisions.specs.Decisions.{decision_with, deposit_by, deposit_of, files_of, ingests, opened, posted_file, received, referred_files, replaced_file, texts_of}
use Rattle.dep_decisions.specs.Kinds.{is_completion, is_deposit, content_kind, takes_kind}
use Rattle.dep_decisions.specs.declared.operation.Operation.{Operation}
use Rattle.dep_decisions.specs.declared.decision.Deposit.{Deposit}
use Rattle.dep_decisions.specs.declared.decision.Deposit.TheVariants as deposit
use Rattle.dep_decisions.specs.declared.decision.Decision.{Decision}
use Rattle.dep_decisions.specs.declared.decision.Decision.TheVariants.{Show, Create, Append, Replace, Complete, SetMetadata, SetFiles, Open}
use Rattle.dep_decisions.proofs.Taken.{taken, uncompleted}

-- ---- a kind that deposits something

deposit_is : (refs : Option (List Reference)) (op : Operation) (k : Kind) → content_kind op ≡ Some k → deposit_of refs op ≡ deposit_by refs op k
unfolding deposit_of
deposit_is refs op k e = ap (λ (o : Option Kind). option_and_then (deposit_by refs op) o) e

texts_set : (i : Bool) (n : ℕ) (o : Option Deposit)
    → unwrap_or (option_map (λ texts. SetMetadata n texts) (option_and_then texts_of o)) Show ≡ unwrap_or (option_map (λ d. deposited_in i d (Metadata n) Put) o) Show
texts_set i n (Some (deposit.Files files)) = refl
texts_set i n _ = refl

files_set : (i : Bool) (n : ℕ) (o : Option Deposit)
    → unwrap_or (option_map (λ files. SetFiles n files) (option_and_then files_of o)) Show ≡ unwrap_or (option_map (λ d. deposited_in i d (FileSet n) Put) o) Show
files_set i n (Some (deposit.Files files)) = refl
files_set i n _ = refl

not_staged : (k : Kind) → is_deposit k ≡ true → takes_kind Staging Post k ≡ true → ⊥
not_staged (of.Opening o) d t = cc d
not_staged (of.Segment k) d t = cc d
not_staged _ d t = cc t

not_uploaded : (u : ℕ) (k : Kind) → is_deposit k ≡ true → takes_kind (Upload u) Post k ≡ true → ⊥
not_uploaded u (of.Opening o) d t = cc d
not_uploaded u (of.Segment k) d t = cc d
not_uploaded u _ d t = cc t

-- the file at a File-URL is set by itself
abbrev is_apart : Kind → Resource → Bool
is_apart (of.File name) (File n f) = true
is_apart kind resource = false

not_filed : (n f : ℕ) (k : Kind) → is_deposit k ≡ true → is_apart k (File n f) ≡ false → takes_kind (File n f) Put k ≡ true → ⊥
not_filed n f (of.File name) d apart t = cc apart
not_filed n f (of.Opening o) d apart t = cc d
not_filed n f (of.Segment k) d apart t = cc d
not_filed n f _ d apart t = cc t

-- what a deposit that there may be makes
abbrev made_of : Operation → Resource → Method → Option Deposit → Decision
made_of op r m o = unwrap_or (option_map (λ d. deposited_in (ingests op) d r m) o) Show

module _ (refs : Option (List Reference)) (op : Operation) (k : Kind) (is : content_kind op ≡ Some k) (deposits : is_deposit k ≡ true) where
  by_target : (r : Resource) (m : Method) → is_apart k r ≡ false → takes_kind r m k ≡ true → asked_at refs op r m ≡ made_of op r m (deposit_of refs op)
  by_target Service Post a t = refl
  by_target (Object n) Post a t =
      ap (λ (b : Bool). unwrap_or (if b then Some (Complete n) else option_map (λ d. Append n d (ingests op)) (deposit_of refs op)) Show) (uncompleted op k is)
  by_target (Object n) Put a t = refl
  by_target (Metadata n) Put a t = texts_set (ingests op) n (deposit_of refs op)
  by_target (FileSet n) Put a t = files_set (ingests op) n (deposit_of refs op)
  by_target (File n f) Put a t = absurd (not_filed n f k deposits a t)
  by_target Staging Post a t = absurd (not_staged k deposits t)
  by_target (Upload u) Post a t = absurd (not_uploaded u k deposits t)
  by_target _ _ a t = cc t

  -- what it deposits is what is asked for
  by_deposit : is_apart k op.target.resource ≡ false → made_of op op.target.resource op.target.method (deposit_by refs op k) ≡ decision_with refs op
  unfolding decision_with
  by_deposit a =
      ap (made_of op op.target.resource op.target.method) (sym (deposit_is refs op k is))
      ∙ sym (by_target op.target.resource op.target.method a (taken op k is))

-- ---- a file

module _ (refs : Option (List Reference)) (op : Operation) (name : List ℕ) (is : content_kind op ≡ Some (of.File name)) where
  through : (r : Resource) (m : Method) → is_apart (of.File name) r ≡ false → takes_kind r m (of.File name) ≡ true
      → deposited_in (ingests op) (deposit.Files (posted_file op name ∷ [])) r m ≡ asked_at refs op r m
  through r m a t =
      ap (made_of op r m) (sym (deposit_is refs op (of.File name) is))
      ∙ sym (by_target refs op (of.File name) is refl r m a t)

  file_at_target : (r : Resource) (m : Method) → takes_kind r m (of.File name) ≡ true → filed_in (ingests op) (posted_file op name) r m ≡ asked_at refs op r m
  file_at_target (File n f) Put t = sym (ap (λ (o : Option Kind). unwrap_or (option_and_then (replaced_file op n f) o) Show) is)
  file_at_target (File n f) _ t = cc t
  file_at_target r m t = through r m refl t

  pub file_asked : filed_in (ingests op) (posted_file op name) op.target.resource op.target.method ≡ decision_with refs op
  unfolding decision_with
  file_asked = file_at_target op.target.resource op.target.method (taken op (of.File name) is)

-- ---- by the kind of the content

module _ (refs : Option (List Reference)) (op : Operation) where
  abbrev of_texts : Option Texts → Decision
  of_texts o = unwrap_or (option_map (λ texts. deposited_in (ingests op) (deposit.Metadata texts) op.target.resource op.target.method) o) Show

  abbrev of_entries : Option (List Reference) → Decision
  of_entries o = unwrap_or (option_map (λ entries. deposited_in (ingests op) (deposit.Files (referred_files op entries)) op.target.resource op.target.method) o) Show

  texts_through : (o : Option Texts) → of_texts o ≡ made_of op op.target.resource op.target.method (option_map (λ texts. deposit.Metadata texts) o)
  texts_through None = refl
  texts_through (Some texts) = refl

  pub texts_asked : (metadata : Option Texts) → content_kind op ≡ Some of.Metadata → metadata ≡ metadata_read op.content → of_texts metadata ≡ decision_with refs op
  texts_asked metadata is read = ap of_texts read ∙ texts_through (metadata_read op.content) ∙ by_deposit refs op of.Metadata is refl refl

  entries_through : (o : Option (List Reference))
      → of_entries o ≡ made_of op op.target.resource op.target.method (option_map (λ entries. deposit.Files (referred_files op entries)) o)
  entries_through None = refl
  entries_through (Some entries) = refl

  pub entries_asked : content_kind op ≡ Some of.References → of_entries refs ≡ decision_with refs op
  entries_asked is = entries_through refs ∙ by_deposit refs op of.References is refl refl

-- ---- where nothing is deposited

module _ (refs : Option (List Reference)) (op : Operation) where
  opening_at : (o : Opening) → content_kind op ≡ Some (of.Opening o) → (r : Resource) (m : Method) → takes_kind r m (of.Opening o) ≡ true → Open o ≡ asked_at refs op r m
  opening_at o is Staging Post t = sym (ap (λ (k : Option Kind). unwrap_or (option_and_then opened k) Show) is)
  opening_at o is _ Post t = cc t
  opening_at o is _ _ t = cc t

  segment_at : (k : ℕ) → content_kind op ≡ Some (of.Segment k) → (r : Resource) (m : Method) → takes_kind r m (of.Segment k) ≡ true → received_in k r ≡ asked_at refs op r m
  segment_at k is (Upload u) Post t = sym (ap (λ (o : Option Kind). unwrap_or (option_and_then (received u) o) Show) is)
  segment_at k is _ Post t = cc t
  segment_at k is _ _ t = cc t

  pub opening_asked : (o : Opening) → content_kind op ≡ Some (of.Opening o) → Open o ≡ decision_with refs op
  unfolding decision_with
  opening_asked o is = opening_at o is op.target.resource op.target.method (taken op (of.Opening o) is)

  pub segment_asked : (k : ℕ) → content_kind op ≡ Some (of.Segment k) → received_in k op.target.resource ≡ decision_with refs op
  unfolding decision_with
  segment_asked k is = segment_at k is op.target.resource op.target.method (taken op (of.Segment k) is)

nothing : (refs : Option (List Reference)) (op : Operation) → content_kind op ≡ None → deposit_of refs op ≡ None
unfolding deposit_of
nothing refs op is = ap (λ (o : Option Kind). option_and_then (deposit_by refs op) o) is

completed : (n : ℕ) (b i : Bool) (o : Option Deposit) → o ≡ None
    → (if b then Complete n else Show) ≡ unwrap_or (if b then Some (Complete n) else option_map (λ d. Append n d i) o) Show
completed n true i o e = refl
completed n false i o e = sym (ap (λ (x : Option Deposit). unwrap_or (option_map (λ d. Append n d i) x) Show) e)

module _ (refs : Option (List Reference)) (op : Operation) (none : content_kind op ≡ None) where
  without : (r : Resource) (m : Method) → undeposited_in op r m ≡ asked_at refs op r m
  without Service Post = sym (ap (λ (o : Option Deposit). unwrap_or (option_map (λ d. Create d (ingests op)) o) Show) (nothing refs op none))
  without (Object n) Post = completed n (is_completion op) (ingests op) (deposit_of refs op) (nothing refs op none)
  without (Object n) Put = sym (ap (λ (o : Option Deposit). unwrap_or (option_map (λ d. Replace n d (ingests op)) o) Show) (nothing refs op none))
  without (Metadata n) Put =
      sym (ap (λ (o : Option Deposit). unwrap_or (option_map (λ texts. SetMetadata n texts) (option_and_then texts_of o)) Show) (nothing refs op none))
  without (FileSet n) Put =
      sym (ap (λ (o : Option Deposit). unwrap_or (option_map (λ files. SetFiles n files) (option_and_then files_of o)) Show) (nothing refs op none))
  without (File n f) Put = sym (ap (λ (o : Option Kind). unwrap_or (option_and_then (replaced_file op n f) o) Show) none)
  without Staging Post = sym (ap (λ (k : Option Kind). unwrap_or (option_and_then opened k) Show) none)
  without (Upload u) Post = sym (ap (λ (k : Option Kind). unwrap_or (option_and_then (received u) k) Show) none)
  without _ Delete = refl
  without _ _ = refl

pub undeposited_asked : (refs : Option (List Reference)) (op : Operation) → content_kind op ≡ None → undeposited_in op op.target.resource op.target.method ≡ decision_with refs op
unfolding decision_with
undeposited_asked refs op none = without refs op none op.target.resource op.target.method
