-- Which file's content is sent for a step.
use Rattle.std.proofs.Common.{◌≡◌, ◌∙◌, ℕ, Bool, true, false, List, Option, Some, None, refl, sym, ap, subst}
use Rattle.std.specs.Prelude.{if◌then◌else◌}
use Rattle.std.specs.Option.{option_map, option_and_then}
use Rattle.std.specs.FinMap as finmap
use Rattle.dep_types.specs.Methods.{is_safe}
use Rattle.dep_types.specs.Sound.{IsSound}
use Rattle.dep_types.specs.State.{State, Object, File, file_at}
use Rattle.dep_types.specs.declared.config.Config.{Config}
use Rattle.dep_types.specs.declared.refusal.Refusal.{Refusal}
use Rattle.dep_types.specs.declared.target.Method.{Method}
use Rattle.dep_types.specs.declared.target.Method.TheVariants.{Get, Head, Post, Put, Delete}
use Rattle.dep_types.specs.declared.target.Resource.{Resource}
use Rattle.dep_types.specs.declared.target.Resource.TheVariants as at
use Rattle.dep_decisions.proofs.ReadAlone.{reads_keep}
use Rattle.dep_decisions.specs.Effects.{effect}
use Rattle.dep_decisions.specs.Rules.{refusal}
use Rattle.dep_decisions.specs.declared.operation.Operation.{Operation}
use Rattle.dep_bag.specs.Numbered.{file_number}
use Rattle.dep_bag.proofs.Numbered.{files_storable, numbered, represents_at}
use Rattle.dep_answers.specs.Answers.{Document, PlainText, ReplyContent, StoredContent, file_reply, source_of}
use Rattle.dep_answers.specs.Bags.{shown_in_bag}
use Rattle.dep_answers.specs.Laws.{file_read}
use Rattle.dep_answers.specs.Replies.{answer_to, content_at, last_object, last_upload, source_shown}
use Rattle.dep_answers.specs.Steps.{accepted_answer, is_head, operation_step, step_by}
use Rattle.dep_answers.specs.declared.performed.FileId.{FileId}
use Rattle.dep_answers.proofs.NumberedReplies.{content_shown, no_payload, shown_numbered}
use Rattle.dep_answers.proofs.RefusedSteps.{no_source}

-- a document and a text are of no file
unsourced : {X : Type 0} (f : X → ReplyContent) (o : Option X) (id : FileId) → source_of (option_map f o) ≡ Some id → ((x : X) → source_of (Some (f x)) ≡ None) → ⊥
unsourced f None id e none = cc
unsourced f (Some x) id e none = let both : None ≡ Some id = sym (none x) ∙ e in cc

-- ---- a bag

-- what the number at the path finds is the file of that number
numbered_source : (path : List ℕ) (n f : ℕ) (x : Option File) (id : FileId) → source_of (option_map (content_shown n) (numbered path f x)) ≡ Some id
    → Some (record { object = n; file = f }) ≡ Some id
numbered_source path n f None id e = absurd (cc)
numbered_source path n f (Some it) id e = go (represents_at path (f, it)) e
  where
    go : (b : Bool) → source_of (option_map (content_shown n) (if b then Some (f, it) else None)) ≡ Some id → Some (record { object = n; file = f }) ≡ Some id
    go true e = e
    go false e = absurd (cc)

module _ (s : State) (sound : IsSound s) (id : FileId) where
  unnumbered_source : (n : ℕ) (o : Object) → finmap.get s.objects n ≡ Some o → (path : List ℕ) → file_number path ≡ None
      → source_of (shown_in_bag n o path) ≡ Some id → ⊥
  unnumbered_source n o there path none e = go (shown_in_bag n o path) refl e
    where
      go : (c : Option ReplyContent) → shown_in_bag n o path ≡ c → source_of c ≡ Some id → ⊥
      go None is e = cc
      go (Some (Document bytes)) is e = cc
      go (Some (PlainText bytes)) is e = cc
      go (Some (StoredContent it media bytes)) is e = no_payload s sound n o there path none it media bytes is

  bag_source : (n : ℕ) (path : List ℕ) (x : Option Object) → finmap.get s.objects n ≡ x
      → source_of (option_and_then (λ (o : Object). shown_in_bag n o path) x) ≡ Some id → file_read (at.BagFile n path) ≡ Some id
  bag_source n path None there e = absurd (cc)
  bag_source n path (Some o) there e = go (file_number path) refl
    where
      in_bag : ℕ → FileId
      in_bag = λ f. record { object = n; file = f }

      go : (k : Option ℕ) → file_number path ≡ k → option_map in_bag (file_number path) ≡ Some id
      go (Some f) of =
          ap (option_map in_bag) of
          ∙ numbered_source path n f (finmap.get o.files f) id
          (ap source_of (sym (shown_numbered path f of n o (files_storable s n o sound there))) ∙ e)
      go None of = absurd (unnumbered_source n o there path of e)

  -- ---- by the resource and the method

  file_source : (n f : ℕ) (x : Option File) → source_of (option_map (file_reply n f) x) ≡ Some id → file_read (at.File n f) ≡ Some id
  file_source n f None e = absurd (cc)
  file_source n f (Some it) e = e

  content_source : (config : Config) (r : Resource) → source_of (content_at config s r) ≡ Some id → file_read r ≡ Some id
  content_source config at.Service e = absurd (cc)
  content_source config (at.Object n) e = absurd (unsourced _ (finmap.get s.objects n) id e (λ x. refl))
  content_source config (at.Metadata n) e = absurd (unsourced _ (finmap.get s.objects n) id e (λ x. refl))
  content_source config (at.FileSet n) e = absurd (cc)
  content_source config (at.File n f) e = file_source n f (file_at s n f) e
  content_source config at.Staging e = absurd (cc)
  content_source config (at.Upload u) e = absurd (unsourced _ (finmap.get s.uploads u) id e (λ x. refl))
  content_source config (at.BagList n) e = absurd (unsourced _ (finmap.get s.objects n) id e (λ x. refl))
  content_source config (at.BagFile n path) e = bag_source n path (finmap.get s.objects n) refl e

module _ (config : Config) (id : FileId) where
  -- of an accepted request
  answer_source : (s : State) (r : Resource) (m : Method) → (m ≡ Get → IsSound s) → source_shown (answer_to config s r m) (is_head m) ≡ Some id
      → (m ≡ Get) × (file_read r ≡ Some id)
  unfolding source_shown
  answer_source s r Get sound e = (refl, content_source s (sound refl) id config r e)
  answer_source s r Head sound e = absurd (cc)
  answer_source s r Delete sound e = absurd (cc)
  answer_source s at.Service Post sound e = absurd (unsourced _ (finmap.get s.objects (last_object s)) id e (λ x. refl))
  answer_source s (at.Object n) Post sound e = absurd (unsourced _ (finmap.get s.objects n) id e (λ x. refl))
  answer_source s at.Staging Post sound e = absurd (unsourced _ (finmap.get s.uploads (last_upload s)) id e (λ x. refl))
  answer_source s (at.Metadata n) Post sound e = absurd (cc)
  answer_source s (at.FileSet n) Post sound e = absurd (cc)
  answer_source s (at.File n f) Post sound e = absurd (cc)
  answer_source s (at.Upload u) Post sound e = absurd (cc)
  answer_source s (at.BagList n) Post sound e = absurd (cc)
  answer_source s (at.BagFile n path) Post sound e = absurd (cc)
  answer_source s at.Service Put sound e = absurd (cc)
  answer_source s (at.Object n) Put sound e = absurd (unsourced _ (finmap.get s.objects n) id e (λ x. refl))
  answer_source s (at.Metadata n) Put sound e = absurd (cc)
  answer_source s (at.FileSet n) Put sound e = absurd (cc)
  answer_source s (at.File n f) Put sound e = absurd (cc)
  answer_source s at.Staging Put sound e = absurd (cc)
  answer_source s (at.Upload u) Put sound e = absurd (cc)
  answer_source s (at.BagList n) Put sound e = absurd (cc)
  answer_source s (at.BagFile n path) Put sound e = absurd (cc)

  step_source : (s : State) (op : Operation) → IsSound s → (o : Option Refusal) → (step_by config s op o).source ≡ Some id
      → (op.target.method ≡ Get) × (file_read op.target.resource ≡ Some id)
  unfolding accepted_answer
  step_source s op sound None e =
      answer_source (effect config s op) op.target.resource op.target.method
      (λ get. subst IsSound (sym (reads_keep config s op (ap is_safe get))) sound) e
  step_source s op sound (Some r) e =
      let both : None ≡ Some id = sym (no_source s.clock r None (is_head op.target.method)) ∙ e in
      absurd (cc)

-- the content of a file is sent for a GET alone, and it is that of the file that its resource names
pub named_source : (config : Config) (s : State) (op : Operation) (id : FileId) → IsSound s → (operation_step config s op).source ≡ Some id
    → (op.target.method ≡ Get) × (file_read op.target.resource ≡ Some id)
unfolding operation_step
named_source config s op id sound e = step_source config id s op sound (refusal config s op) e
