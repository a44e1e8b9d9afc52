-- What is ready is the reply of a step.
use Rattle.std.proofs.Common.{◌≡◌, inl, inr, ℕ, Bool, true, List, [], Option, Some, None, Result, Ok, Err, IfOk, OnErr, refl, sym, ap, subst, ◌∙◌}
use Rattle.std.proofs.lemmas.Result.{IfOk-weaker}
use Rattle.dep_types.specs.State.{State, tick}
use Rattle.dep_types.specs.declared.config.Config.{Config}
use Rattle.dep_types.specs.declared.refusal.Refusal.{Refusal}
use Rattle.dep_types.specs.declared.refusal.Refusal.TheVariants as why
use Rattle.dep_types.specs.declared.store_fault.StoreFault.{StoreFault}
use Rattle.dep_types.specs.declared.target.Target.{Target}
use Rattle.dep_fields.specs.Fit.{AreFit}
use Rattle.dep_fields.specs.declared.fields.SwordFields.{SwordFields}
use Rattle.dep_fields.proofs.FitFields.{fields_are_fit}
use Rattle.dep_head.specs.Head.{HeadParts}
use Rattle.dep_message.specs.Heads.{is_head_only, closes}
use Rattle.dep_message.specs.Stream.{Item, Fault, Continue, Request}
use Rattle.dep_message.specs.declared.message.Message.{Message}
use Rattle.dep_router.specs.Targets.{target}
use Rattle.dep_router.specs.declared.routed.Routed.{Routed}
use Rattle.dep_router.specs.declared.routed.Routed.TheVariants.{To, NotFound, NotAllowed}
use Rattle.dep_decisions.specs.declared.operation.Operation.{Operation}
use Rattle.dep_answers.specs.Replies.{refused_answer}
use Rattle.dep_answers.specs.Steps.{refused_step, operation_step}
use Rattle.dep_answers.specs.Performing.{IsReady, IsReply}
use Rattle.dep_answers.specs.declared.performed.Delivery.{Delivery}
use Rattle.dep_answers.specs.declared.performed.Performed.{Performed}
use Rattle.dep_types.specs.Conditions.{Condition, Represents, HasCleanDisk}
use Rattle.dep_exchange.specs.Archives.{TriesTo, MakesStep, Reports, Ticks, FailsIfShut, Always}
use Rattle.dep_exchange.specs.Machine.{operation_of, routed_step, message_step, starting_state, step}
use Rattle.dep_exchange.specs.Making.{IsMade, NeedsStep, MakesItem}
use Rattle.dep_exchange.proofs.Leaving.{Settles, stays_as, leaves_wider}

-- a refusal at a clock
pub refusal_ready : (s : State) (d : Delivery) (p : Performed) (r : Refusal) (allow : Option (List ℕ)) (b c : Bool)
    → d.clock ≡ s.clock → d.is_head_only ≡ b → d.closes ≡ c → ((t : State) → IsReply t (refused_answer d.clock r allow) d p)
    → IsReady (refused_step s r allow b c) p
refusal_ready s d p r allow b c clock head_only close e =
    subst (λ (x : Delivery). IsReply s (refused_answer x.clock r allow) x p) (λ i. record { clock = clock i; is_head_only = head_only i; closes = close i }) (e s)

-- ---- what a step comes to on an archive

on_err : {A E : Type 0} (r : Result A E) (P : Type 0) → P → OnErr r P
on_err (Ok answer) P h = tt
on_err (Err fault) P h = h

-- the archive wasn't asked, and the state stays
pub reports_still : {A E : Type 0} (store : Condition) → Settles store → (reported : State → A → Type 0) (r : Result A E) → ((s : State) → IfOk r (reported s))
    → Reports store store reported r
reports_still store settles reported r reports = record {
  ok = λ clean s at _. IfOk-weaker r (reported s) (λ answer. reported s answer × Represents store s) (λ answer h. (h, at)) (reports s);
  err = λ is_open s at. on_err r (Represents store s) at;
  honest = λ clean. clean;
  was_open = λ is_open. is_open;
  stop = λ clean s at _. leaves_wider store _ _ (λ found e. inl e) (stays_as store s settles at);
}

-- it failed before the archive was asked
pub fails_unasked : {A E : Type 0} (store : Condition) → Settles store → (reported : State → A → Type 0) (next : State → State) (fault : E)
    → TriesTo store store Always reported next (Err fault)
fails_unasked store settles reported next fault = record {
  ok = λ clean s at _. tt;
  err = λ is_open s at. at;
  honest = λ clean. clean;
  was_open = λ is_open. is_open;
  stop = λ clean s at _. leaves_wider store _ _ (λ found e. inl e) (stays_as store s settles at);
}

-- what holds of each state need not be asked for
pub tries_always : {A E : Type 0} (old new : Condition) (holds : State → Type 0) (reported : State → A → Type 0) (next : State → State) (r : Result A E)
    → ((s : State) → holds s) → TriesTo old new holds reported next r → TriesTo old new Always reported next r
tries_always old new holds reported next r each it = record {
  ok = λ clean s at _. it.ok clean s at (each s);
  err = it.err;
  honest = it.honest;
  was_open = it.was_open;
  stop = λ clean s at _. it.stop clean s at (each s);
}

-- what is told of a state is told where more is known
reported_where : {A E : Type 0} (old new : Condition) (reported : State → A → Type 0) (knows : State → Type 0) (next : State → State) (r : Result A E)
    → TriesTo old new Always reported next r → TriesTo old new Always (λ s answer. knows s → reported s answer) next r
reported_where old new reported knows next r it = record {
  ok = λ clean s at always. IfOk-weaker r _ _ (λ answer h. (λ _. h.0, h.1)) (it.ok clean s at always);
  err = it.err;
  honest = it.honest;
  was_open = it.was_open;
  stop = it.stop;
}

-- the request that a message is
pub operation_made : {E : Type 0} (config : Config) (m : Message) (t : Target) (old new : Condition) (op : Operation) (r : Result Performed E) → op ≡ operation_of m t
    → MakesStep old new (λ s. AreFit op.fields) (λ s. operation_step config s op) r → MakesStep old new Always (λ s. operation_step config s (operation_of m t)) r
operation_made config m t old new op r same made =
    let fit : AreFit op.fields = subst (λ (f : SwordFields). AreFit f) (ap (λ (o : Operation). o.fields) (sym same)) (fields_are_fit m.head.fields) in
    subst (λ (x : Operation). MakesStep old new Always (λ s. operation_step config s x) r) same
    (tries_always old new (λ s. AreFit op.fields) (λ s p. IsReady (operation_step config s op) p) (λ s. (operation_step config s op).state) r (λ s. fit) made)

-- a message whose reply tells a clock
module _ {E : Type 0} (config : Config) (m : Message) (old new : Condition) (clock : ℕ) (r : Result Performed E) where
  abbrev AnswersIt : Routed → Type 0
  AnswersIt it = TriesTo old new Always (λ s p. clock ≡ s.clock → IsReady (routed_step config s m it) p) (λ s. (routed_step config s m it).state) r

  -- a resource is named, and a method that it has
  pub operation_answered : (op : Operation) (t : Target) → op ≡ operation_of m t → To t ≡ target m.head.method m.head.path
      → MakesStep old new Always (λ s. operation_step config s op) r → AnswersIt (target m.head.method m.head.path)
  operation_answered op t same named it =
      let made = subst (λ (x : Operation). MakesStep old new Always (λ s. operation_step config s x) r) same it in
      subst AnswersIt named (reported_where old new (λ s p. IsReady (operation_step config s (operation_of m t)) p) (λ s. clock ≡ s.clock)
      (λ s. (operation_step config s (operation_of m t)).state) r made)

-- none is named
module _ {E : Type 0} (config : Config) (m : Message) (clock : ℕ) (head_only close : Bool) (head_only_is : head_only ≡ is_head_only m.head) (close_is : close ≡ closes m.head)
    (store : Condition) (settles : Settles store) (r : Result Performed E) where
  abbrev Refuses : Refusal → Option (List ℕ) → Type 0
  Refuses refusal allow = IfOk r (λ p. (s : State) → clock ≡ s.clock → IsReady (refused_step s refusal allow head_only close) p)

  refused_still : (refusal : Refusal) (allow : Option (List ℕ)) → Refuses refusal allow
      → Reports store store (λ s p. clock ≡ s.clock → IsReady (refused_step s refusal allow (is_head_only m.head) (closes m.head)) p) r
  refused_still refusal allow e = reports_still store settles _ r
      (λ s. IfOk-weaker r _ _ (λ p h at. subst (λ (b : Bool). IsReady (refused_step s refusal allow b (closes m.head)) p) head_only_is
      (subst (λ (c : Bool). IsReady (refused_step s refusal allow head_only c) p) close_is (h s at))) e)

  pub none_answered : NotFound ≡ target m.head.method m.head.path → Refuses why.NotFound None → AnswersIt config m store store clock r (target m.head.method m.head.path)
  none_answered named e = subst (AnswersIt config m store store clock r) named (refused_still why.NotFound None e)

  pub not_allowed_answered : (methods : List ℕ) → NotAllowed methods ≡ target m.head.method m.head.path → Refuses why.MethodNotAllowed (Some methods)
      → AnswersIt config m store store clock r (target m.head.method m.head.path)
  not_allowed_answered methods named e = subst (AnswersIt config m store store clock r) named (refused_still why.MethodNotAllowed (Some methods) e)

-- what is asked for doesn't hang on the path, which the resource was read from
pub same_operation : (m : Message) (h : HeadParts) (t : Target) → h ≡ record { method = m.head.method; path = []; minor = m.head.minor; fields = m.head.fields }
    → operation_of (record { head = h; content = m.content }) t ≡ operation_of m t
unfolding closes
same_operation m h t e = ap (λ (x : HeadParts). operation_of (record { head = x; content = m.content }) t) e

-- nor does whether the connection is closed
pub same_end : (head left : HeadParts) → left ≡ record { method = head.method; path = []; minor = head.minor; fields = head.fields } → closes left ≡ closes head
unfolding closes
same_end head left rest = ap (λ (h : HeadParts). closes h) rest

-- the method and the path that are asked for are those of the head from which they were taken
pub asked_same : (head left : HeadParts) (method path : List ℕ) → method ≡ left.method
    → left ≡ record { method = head.method; path = []; minor = head.minor; fields = head.fields } → path ≡ head.path
    → target method path ≡ target head.method head.path
asked_same head left method path m rest p = λ i. target ((m ∙ ap (λ (h : HeadParts). h.method) rest) i) (p i)

-- ---- the clock goes on, and then an item is stepped

-- the state that a step begins with is the tick's
starts : (config : Config) (item : Item) → NeedsStep item → (s : State) (moment : ℕ) → starting_state config s item moment ≡ tick config s moment
starts config (Fault r head_only) stepped s moment = refl
starts config Continue stepped s moment = absurd stepped
starts config (Request m) stepped s moment = refl

-- the clock couldn't go on
pub never_ticked : (config : Config) (item : Item) (moment : ℕ) (old new : Condition) (fault : StoreFault) → NeedsStep item → Ticks old new config moment (Err fault)
    → FailsIfShut {A = ℕ} old new (Err fault) → MakesItem config item moment old new (Err fault)
never_ticked config item moment old new fault stepped ticks fails = record {
  stepped = stepped;
  makes = λ disk s at. record {
    left = s;
    is_left = inl refl;
    represents = λ is_open. ticks.err is_open s at;
    stop = leaves_wider new _ _ (λ found e. elim e [ inl same ↦ inl same | inr next ↦ inr (inl (next ∙ sym (starts config item stepped s moment))) ]) (ticks.stop disk s at tt);
  };
  honest = ticks.honest;
  was_open = ticks.was_open;
  shut = fails.left;
}

module _ (config : Config) (moment : ℕ) (old mid : Condition) (clock : ℕ) (ticks : Ticks {E = StoreFault} old mid config moment (Ok clock))
    (fails : FailsIfShut {E = StoreFault} old mid (Ok clock)) where
  -- a whole message
  message_is : (m : Message) (new : Condition) (r : Result Performed StoreFault)
      → TriesTo mid new Always (λ s p. clock ≡ s.clock → IsReady (message_step config s m) p) (λ s. (message_step config s m).state) r
      → HasCleanDisk new → (s : State) → Represents old s → IsMade config s (Request m) moment new r
  unfolding step
  message_is m new (Ok p) did disk s at =
      let t = ticks.ok (did.honest disk) s at tt in
      let x = did.ok disk (tick config s moment) t.1 tt in
      record { state = x.1; ready = x.0 t.0 }
  message_is m new (Err fault) did disk s at =
      let t = ticks.ok (did.honest disk) s at tt in record {
        left = tick config s moment;
        is_left = inr refl;
        represents = λ is_open. did.err is_open (tick config s moment) t.1;
        stop = leaves_wider new _ _ (λ found e. inr e) (did.stop disk (tick config s moment) t.1 tt);
      }

  pub message_made : (m : Message) (new : Condition) (r : Result Performed StoreFault)
      → TriesTo mid new Always (λ s p. clock ≡ s.clock → IsReady (message_step config s m) p) (λ s. (message_step config s m).state) r
      → MakesItem config (Request m) moment old new r
  message_made m new r did = record {
    stepped = tt;
    makes = message_is m new r did;
    honest = λ disk. ticks.honest (did.honest disk);
    was_open = λ is_open. ticks.was_open (did.was_open is_open);
    shut = λ disk none. absurd (none (fails.opened (did.honest disk)));
  }

  -- a fault of the stream
  module _ (refusal : Refusal) (head_only : Bool) (settles : Settles mid) where
    fault_is : (r : Result Performed StoreFault) → IfOk r (λ p. (s : State) → clock ≡ s.clock → IsReady (refused_step s refusal None head_only true) p)
        → HasCleanDisk mid → (s : State) → Represents old s → IsMade config s (Fault refusal head_only) moment mid r
    unfolding step
    fault_is (Ok p) says disk s at = let t = ticks.ok disk s at tt in record { state = t.1; ready = says (tick config s moment) t.0 }
    fault_is (Err fault) says disk s at =
        let t = ticks.ok disk s at tt in record {
          left = tick config s moment;
          is_left = inr refl;
          represents = λ is_open. t.1;
          stop = leaves_wider mid _ _ (λ found e. inr (inl e)) (stays_as mid (tick config s moment) settles t.1);
        }

    pub fault_made : (r : Result Performed StoreFault) → IfOk r (λ p. (s : State) → clock ≡ s.clock → IsReady (refused_step s refusal None head_only true) p)
        → MakesItem config (Fault refusal head_only) moment old mid r
    fault_made r says = record {
      stepped = tt;
      makes = fault_is r says;
      honest = ticks.honest;
      was_open = ticks.was_open;
      shut = λ disk none. absurd (none (fails.opened disk));
    }
