-- A segment whose reply has the status 204 stands there.
use Rattle.std.proofs.Common.{◌≡◌, ℕ, ◌||◌, Bool, true, false, List, [], ◌++◌, get_or, Option, Some, None, is_some, refl, sym, ap, subst, ◌∙◌, append_assoc}
use Rattle.std.specs.Fmt.{digits}
use Rattle.std.proofs.lemmas.List.{append-nil}
use Rattle.dep_types.specs.Refusals.{facts_of}
use Rattle.dep_types.specs.State.{State, tick}
use Rattle.dep_types.specs.declared.config.Config.{Config}
use Rattle.dep_types.specs.declared.refusal.Refusal.{Refusal}
use Rattle.dep_types.specs.declared.refusal.Refusal.TheVariants as why
use Rattle.dep_types.specs.declared.target.Method.TheVariants.{Post}
use Rattle.dep_fields.specs.declared.field.Field.{Field}
use Rattle.dep_fields.specs.declared.field.Field.TheVariants.{Absent, Bad, Value}
use Rattle.dep_fields.specs.declared.kind.Kind.{Kind}
use Rattle.dep_fields.specs.declared.kind.Kind.TheVariants as of
use Rattle.dep_reply.specs.Head.{ReplyHead, status_line, head_text}
use Rattle.dep_decisions.specs.Kinds.{content_kind, kind_by, is_completion}
use Rattle.dep_decisions.specs.LookUps.{in_state}
use Rattle.dep_decisions.specs.Rules.{refusal, kind_rule}
use Rattle.dep_decisions.specs.declared.operation.Operation.{Operation}
use Rattle.dep_decisions.proofs.FoundInMaps.{unless-none}
use Rattle.dep_decisions.proofs.Passed.{content_passed}
use Rattle.dep_answers.specs.Answers.{Answer, document_of, head_of}
use Rattle.dep_answers.specs.Replies.{unless_head_only, front_text, stored_text, refused_answer}
use Rattle.dep_answers.specs.Steps.{sent_by, answered_step, refused_step, is_head, step_by, operation_step}
use Rattle.dep_message.specs.Stream.{Request}
use Rattle.dep_message.specs.declared.message.Message.{Message}
use Rattle.dep_router.specs.Targets.{target}
use Rattle.dep_router.specs.declared.routed.Routed.{Routed}
use Rattle.dep_router.specs.declared.routed.Routed.TheVariants.{To}
use Rattle.dep_exchange.specs.Machine.{operation_of, routed_step, step}
use Rattle.dep_decisions.specs.Laws.{posted_to}
use Rattle.dep_server.specs.Acknowledged.{BeginsWithStatus, IsReceived}
use Rattle.dep_server.proofs.SegmentsStay.{received_by}

-- ---- a refusal's reply has another status

-- the first digit of the status
ninth : List ℕ → ℕ
ninth bytes = get_or bytes 9 0

apart : (a b : List ℕ) → a ≡ b → ninth a ≡ 52 → ninth b ≡ 50 → ⊥
apart a b e four two = let same : ninth a ≡ ninth b = ap ninth e in cc

apart_too : (a b : List ℕ) → a ≡ b → ninth a ≡ 53 → ninth b ≡ 50 → ⊥
apart_too a b e five two = let same : ninth a ≡ ninth b = ap ninth e in cc

other_status : (r : Refusal) (x y : List ℕ) → status_line (facts_of r).status ++ x ≡ status_line 204 ++ y → ⊥
unfolding ninth status_line digits
other_status why.StoreFull x y e = apart_too _ _ e refl refl
other_status _ x y e = apart _ _ e refl refl

-- with more behind it
more : (status : ℕ) {sent : List ℕ} (behind : List ℕ) → BeginsWithStatus status sent → BeginsWithStatus status (sent ++ behind)
more status behind h = (h.0 ++ behind, ap (λ t. t ++ behind) h.1 ∙ append_assoc (status_line status) h.0 behind)

head_begins : (r : ReplyHead) → BeginsWithStatus r.status (head_text r)
unfolding head_text
head_begins r =
    let n : ℕ = r.status in
    more n _ (more n _ (more n _ (more n _ (more n _ (more n _ (more n _ (more n _ ([], sym (append-nil (status_line n))))))))))

-- a reply begins with the status of its answer
pub reply_begins : (s : State) (a : Answer) (clock : ℕ) (head_only ends : Bool) → BeginsWithStatus a.status (sent_by (answered_step s a clock head_only ends))
unfolding front_text
reply_begins s a clock head_only ends =
    more a.status (stored_text a head_only) (more a.status (unless_head_only head_only (document_of a.content)) (head_begins (head_of a clock ends)))

not_refused : (s : State) (r : Refusal) (head_only ends : Bool) → BeginsWithStatus 204 (sent_by (refused_step s r None head_only ends)) → ⊥
not_refused s r head_only ends h =
    let begins = reply_begins s (refused_answer s.clock r None) s.clock head_only ends in
    other_status r begins.0 h.0 (sym begins.1 ∙ h.1)

-- ---- what is accepted names a segment

one_of : (a b : Bool) → (a || b) ≡ true → b ≡ false → a ≡ true
one_of true b e f = refl
one_of false b e f = cc

some_of : (o : Option Kind) → is_some o ≡ true → (kind : Kind) × (o ≡ Some kind)
some_of None e = cc
some_of (Some kind) e = (kind, refl)

-- an upload takes segments alone
taken : (m : Message) (u : ℕ) (f : Field Kind) (kind : Kind) → kind_by (operation_of m (posted_to u)) f ≡ Some kind → (k : ℕ) × (kind ≡ of.Segment k)
taken m u Absent kind e = cc
taken m u Bad kind e = cc
taken m u (Value (of.Segment k)) kind e = (k, let same : of.Segment k ≡ kind = cc in sym same)
taken m u (Value (of.File name)) kind e = cc
taken m u (Value of.Metadata) kind e = cc
taken m u (Value of.References) kind e = cc
taken m u (Value (of.Opening o)) kind e = cc

module _ (config : Config) (s : State) (m : Message) (u : ℕ) where
  named_kind : refusal config s (operation_of m (posted_to u)) ≡ None → is_some (content_kind (operation_of m (posted_to u))) ≡ true
  unfolding kind_rule is_completion
  named_kind accepted =
      let op : Operation = operation_of m (posted_to u) in
      let passed = content_passed config (in_state s) op accepted refl in
      one_of (is_some (content_kind op)) (is_completion op) (unless-none (is_some (content_kind op) || is_completion op) why.BadRequest passed.kind) refl

  pub named_segment : refusal config s (operation_of m (posted_to u)) ≡ None → (k : ℕ) × (content_kind (operation_of m (posted_to u)) ≡ Some (of.Segment k))
  unfolding content_kind
  named_segment accepted =
      let op : Operation = operation_of m (posted_to u) in
      let kind = some_of (content_kind op) (named_kind accepted) in
      let segment = taken m u op.fields.disposition kind.0 kind.1 in
      (segment.0, kind.1 ∙ ap (λ (k : Kind). Some k) segment.1)

  by_refusal : (o : Option Refusal) → refusal config s (operation_of m (posted_to u)) ≡ o → BeginsWithStatus 204 (sent_by (step_by config s (operation_of m (posted_to u)) o))
      → IsReceived (step_by config s (operation_of m (posted_to u)) o).state m u
  by_refusal None accepted h =
      let k = named_segment accepted in
      record { segment = k.0; named = k.1; represents = received_by config s (operation_of m (posted_to u)) u k.0 refl k.1 accepted }
  by_refusal (Some r) refused h = absurd (not_refused s r (is_head Post) (operation_of m (posted_to u)).closes h)

-- what is answered with 204 stands in the state that the step leaves
pub replied_represents : (config : Config) (s : State) (m : Message) (moment u : ℕ) → target m.head.method m.head.path ≡ To (posted_to u)
    → BeginsWithStatus 204 (sent_by (step config s (Request m) moment)) → IsReceived (step config s (Request m) moment).state m u
unfolding step operation_step
replied_represents config s m moment u named h =
    let t = tick config s moment in
    subst (λ (r : Routed). BeginsWithStatus 204 (sent_by (routed_step config t m r)) → IsReceived (routed_step config t m r).state m u) (sym named)
    (by_refusal config t m u (refusal config t (operation_of m (posted_to u))) refl) h
