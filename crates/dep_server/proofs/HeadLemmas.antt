-- Every reply of a sound machine begins with a head that ends once.
use Rattle.std.proofs.Common.{◌≡◌, ℕ, Bool, true, ◌++◌, length, Option, Some, None, refl, ap, ◌∙◌, append_assoc}
use Rattle.std.specs.Prelude.{IsTrue}
use Rattle.dep_types.specs.State.{State, tick}
use Rattle.dep_types.specs.Sound.{IsSound}
use Rattle.dep_types.specs.Config.{IsChecked}
use Rattle.dep_types.specs.declared.config.Config.{Config}
use Rattle.dep_types.specs.declared.refusal.Refusal.{Refusal}
use Rattle.dep_types.specs.declared.refusal.Refusal.TheVariants as why
use Rattle.dep_types.specs.declared.target.Resource.{Resource}
use Rattle.dep_types.specs.declared.target.Resource.TheVariants as at
use Rattle.dep_types.specs.declared.target.Method.{Method}
use Rattle.dep_types.proofs.TickSound.{keeps_sound}
use Rattle.dep_head.specs.Head.{head_end}
use Rattle.dep_head.proofs.HeadEnd.{end_more}
use Rattle.dep_message.specs.Heads.{is_head_only, closes}
use Rattle.dep_message.specs.Stream.{Item, Fault, Continue, Request}
use Rattle.dep_message.specs.declared.message.Message.{Message}
use Rattle.dep_reply.specs.Head.{head_text}
use Rattle.dep_reply.specs.Lines.{is_unbroken, IsUnbroken}
use Rattle.dep_reply.proofs.LineLemmas.{head_ends, head_reads}
use Rattle.dep_fields.specs.Fit.{AreFit}
use Rattle.dep_fields.proofs.FitFields.{fields_are_fit}
use Rattle.dep_decisions.specs.Rules.{refusal}
use Rattle.dep_decisions.specs.Effects.{effect}
use Rattle.dep_decisions.specs.declared.operation.Operation.{Operation}
use Rattle.dep_decisions.proofs.Accepted.{effect_sound}
use Rattle.dep_answers.specs.Answers.{Answer, document_of, head_of}
use Rattle.dep_answers.specs.Replies.{unless_head_only, front_text, refused_answer}
use Rattle.dep_answers.specs.Steps.{is_head, accepted_answer, step_by, operation_step}
use Rattle.dep_answers.proofs.Unbroken.{answer_unbroken, refused_unbroken}
use Rattle.dep_router.specs.Targets.{target, to_resource, to_method, method_of, segments, resource_of, allow_text}
use Rattle.dep_exchange.specs.Machine.{operation_of, routed_step, step}
use Rattle.dep_server.specs.ReplyHeads.{IsWholeReply, IsUnsplit}

whole_reply : (a : Answer) (clock : ℕ) (head_only ends : Bool) → IsUnbroken (head_of a clock ends) → IsWholeReply (front_text a clock head_only ends)
unfolding front_text
whole_reply a clock head_only ends unbroken =
    let r = head_of a clock ends in
    let document = unless_head_only head_only (document_of a.content) in
    record {
      head = r;
      document = document;
      whole = refl;
      ends = λ behind.
          ap head_end (append_assoc (head_text r) document behind)
          ∙ end_more (head_text r) (document ++ behind) (length (head_text r)) (head_ends r unbroken);
      lines = head_reads r unbroken;
    }

refused_whole : (r : Refusal) (clock : ℕ) (head_only ends : Bool) → IsWholeReply (front_text (refused_answer clock r None) clock head_only ends)
refused_whole r clock head_only ends = whole_reply (refused_answer clock r None) clock head_only ends (refused_unbroken r None tt clock ends)

allow_unbroken : (resource : Resource) → IsTrue (is_unbroken (allow_text resource))
allow_unbroken at.Service = refl
allow_unbroken (at.Object n) = refl
allow_unbroken (at.Metadata n) = refl
allow_unbroken (at.FileSet n) = refl
allow_unbroken (at.File n f) = refl
allow_unbroken at.Staging = refl
allow_unbroken (at.Upload n) = refl
allow_unbroken (at.BagList n) = refl
allow_unbroken (at.BagFile n path) = refl

module _ (config : Config) (checked : IsChecked config) where
  by_refusal : (s : State) (op : Operation) → AreFit op.fields → (o : Option Refusal) → refusal config s op ≡ o → IsSound s → IsWholeReply (step_by config s op o).front
  unfolding accepted_answer
  by_refusal s op fit None accepted sound =
      let after = effect config s op in
      whole_reply (accepted_answer config after op) s.clock (is_head op.target.method) op.closes
      (answer_unbroken config checked.base after (effect_sound config s op fit accepted sound) op.target.resource op.target.method s.clock op.closes)
  by_refusal s op fit (Some r) refused sound = refused_whole r s.clock (is_head op.target.method) op.closes

  operation_whole : (s : State) (op : Operation) → AreFit op.fields → IsSound s → IsWholeReply (operation_step config s op).front
  unfolding operation_step
  operation_whole s op fit sound = by_refusal s op fit (refusal config s op) refl sound

  by_method : (s : State) (m : Message) (resource : Resource) (method : Option Method) → IsSound s → IsWholeReply (routed_step config s m (to_method resource method)).front
  by_method s m resource (Some method) sound = operation_whole s (operation_of m (record { resource = resource; method = method })) (fields_are_fit m.head.fields) sound
  by_method s m resource None sound =
      whole_reply (refused_answer s.clock why.MethodNotAllowed (Some (allow_text resource))) s.clock (is_head_only m.head) (closes m.head)
      (refused_unbroken why.MethodNotAllowed (Some (allow_text resource)) (allow_unbroken resource) s.clock (closes m.head))

  routed_whole : (s : State) (m : Message) (r : Option Resource) → IsSound s → IsWholeReply (routed_step config s m (to_resource m.head.method r)).front
  routed_whole s m None sound = refused_whole why.NotFound s.clock (is_head_only m.head) (closes m.head)
  routed_whole s m (Some resource) sound = by_method s m resource (method_of resource m.head.method) sound

  pub step_unsplit : (s : State) (item : Item) (moment : ℕ) → IsSound s → IsUnsplit item (step config s item moment).front
  unfolding step head_end target
  step_unsplit s (Fault r head_only) moment sound = refused_whole r (tick config s moment).clock head_only true
  step_unsplit s Continue moment sound = refl
  step_unsplit s (Request m) moment sound = routed_whole (tick config s moment) m (resource_of (segments m.head.path)) (keeps_sound config s moment sound)
