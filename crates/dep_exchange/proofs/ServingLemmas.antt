-- How the serving of an arrival goes on, and how it ends.
use Rattle.std.proofs.Common.{◌≡◌, ◌≢◌, ◌⊎◌, inl, ℕ, Bool, true, false, if◌then◌else◌, List, [], ◌∷◌, ◌++◌, IsTrue, refl, sym, ap, subst, ◌∙◌, append_assoc, Option, Ok, Err}
use Rattle.std.proofs.lemmas.List.{append-nil}
use Rattle.dep_types.specs.State.{State}
use Rattle.dep_types.specs.declared.config.Config.{Config}
use Rattle.dep_types.specs.Writing.{IsProperPrefix, HasRisen}
use Rattle.dep_types.specs.declared.refusal.Refusal.{Refusal}
use Rattle.dep_types.specs.declared.store_fault.StoreFault.{StoreFault}
use Rattle.dep_message.specs.Places.{Place, Open, Shut, Reading, place_with}
use Rattle.dep_message.specs.Heads.{closes}
use Rattle.dep_message.specs.Stream.{Item, Fault, Continue, Request, FirstAt, Waits}
use Rattle.dep_message.specs.declared.message.Message.{Message}
use Rattle.dep_message.proofs.Reading.{reads_one}
use Rattle.dep_answers.specs.Steps.{sent_by}
use Rattle.dep_answers.specs.declared.performed.Performed.{Performed}
use Rattle.dep_types.specs.Conditions.{Condition, Represents, HasCleanDisk}
use Rattle.dep_exchange.specs.Machine.{step, replies, state_after, continue_line, Fails, Serves, given_up, cut_short, serves_all, step_fails, gives_up, answer_at_place}
use Rattle.dep_exchange.specs.Making.{GivesUp, NeedsStep, MakesItem}
use Rattle.dep_exchange.specs.Causes.{IsCutInContent}
use Rattle.dep_exchange.specs.Sending.{IsReplySent, SendsOver, SendsReply, SendsReady, Outside, Passes, SendsStep, fault_reply, outside}
use Rattle.dep_exchange.specs.Serving.{Arrival, IsDeadIfShut, FailsFrom, IsAnsweredBy, IsFixedSent, IsAnsweredShut, IsStill, ReadsWith, Answers, ServedSoFar, ServesFrom, ServesOver, answer_after}
use Rattle.dep_exchange.specs.Nexts.{RunsOut}
use Rattle.dep_exchange.specs.Shut.{LeavesNoMore, IfShut, EndsFixed, has_ended}
use Rattle.dep_exchange.specs.Shut as fixed
use Rattle.dep_exchange.proofs.ShutLemmas.{leaves_same, leaves_both, shut_both, sends_up_to, is_fixed, continues_more, ends_fixed, sends_behind, sends_no_more, was_cut}
use Rattle.dep_exchange.specs.declared.arrived.Arrived.{Arrived}
use Rattle.dep_exchange.specs.declared.arrived.Arrived.TheVariants.{Open as StaysOpen, Closed, Cut}
use Rattle.dep_exchange.specs.declared.sending.Answered.{Answered}
use Rattle.dep_exchange.specs.declared.sending.Answered.TheVariants.{Sent, GaveUp, CutShort}
use Rattle.dep_exchange.proofs.Leaving.{Settles, stays_as}
use Rattle.dep_exchange.proofs.SendingLemmas.{passes_none, passes_both, passes_at}

-- what is sent for one item more
pub replies_more : (config : Config) (s : State) (items : List Item) (item : Item) (moment : ℕ)
    → replies config s (items ++ item ∷ []) moment ≡ replies config s items moment ++ sent_by (step config (state_after config s items moment) item moment)
replies_more config s [] item moment = append-nil (sent_by (step config s item moment))
replies_more config s (x ∷ items) item moment =
    ap (λ bytes. sent_by (step config s x moment) ++ bytes) (replies_more config (step config s x moment).state items item moment)
    ∙ sym (append_assoc (sent_by (step config s x moment)) (replies config (step config s x moment).state items moment) (sent_by (step config (state_after config (step config s x moment).state items moment) item moment)))

-- the state after one item more
pub state_after_more : (config : Config) (s : State) (items : List Item) (item : Item) (moment : ℕ)
    → state_after config s (items ++ item ∷ []) moment ≡ (step config (state_after config s items moment) item moment).state
state_after_more config s [] item moment = refl
state_after_more config s (x ∷ items) item moment = state_after_more config (step config s x moment).state items item moment

-- nothing is served yet
pub served_none : (config : Config) (came : Arrival) (at : Outside) → ServedSoFar config came at at (place_with came.reading.place came.piece)
served_none config came at = record {
  items = [];
  sent = [];
  reads = refl;
  passes = passes_none at;
  replied = λ disk s represents. record { represents = represents; whole = refl; failures = refl };
  shut = λ disk none. ((0, refl), leaves_same at.store);
  still = λ disk none s. (refl, refl);
}

-- what tells a client to go on leaves any state as it is
pub still_more : (config : Config) (items : List Item) (item : Item) (moment : ℕ) (front sent : List ℕ) → IsStill config items moment front → IsAnsweredShut item sent Sent
    → IsStill config (items ++ item ∷ []) moment (front ++ sent)
unfolding step
still_more config items Continue moment front sent still h s = (
  state_after_more config s items Continue moment ∙ (still s).0,
  replies_more config s items Continue moment ∙ ap (λ bytes. bytes ++ (continue_line ++ [])) (still s).1 ∙ ap (λ bytes. front ++ bytes) (append-nil continue_line ∙ sym h),
)
still_more config items (Fault r head_only) moment front sent still h s = absurd h.2
still_more config items (Request m) moment front sent still h s = absurd h.2

-- the last item fails, and any state stays
pub fails_still : (config : Config) (s : State) (item : Item) (moment : ℕ) (sent : List ℕ) (answer : Answered) → answer ≢ Sent → IsAnsweredShut item sent answer
    → Fails config s item moment sent s (answer_after answer)
unfolding step
fails_still config s item moment sent Sent never h = absurd (never refl)
fails_still config s Continue moment sent GaveUp never h = absurd h
fails_still config s Continue moment sent CutShort never h = cut_short (subst (λ (bytes : List ℕ). IsProperPrefix sent bytes) (sym (append-nil continue_line)) h) refl
fails_still config s (Fault r head_only) moment sent GaveUp never h = given_up h.1 (sends_up_to h.0 sent GaveUp h.2) (inl refl)
fails_still config s (Fault r head_only) moment sent CutShort never h = given_up h.1 (sends_up_to h.0 sent CutShort h.2) (inl refl)
fails_still config s (Request m) moment sent GaveUp never h = given_up h.1 (sends_up_to h.0 sent GaveUp h.2) (inl refl)
fails_still config s (Request m) moment sent CutShort never h = given_up h.1 (sends_up_to h.0 sent CutShort h.2) (inl refl)

-- an item more is answered
pub served_more : {config : Config} {came : Arrival} {old mid new : Outside} {at next : Place} (item : Item)
    → ServedSoFar config came old mid at → FirstAt came.reading.limit at item next
    → Answers config mid new item came.moment Sent → ServedSoFar config came old new next
served_more {config} {came} {old} {mid} {new} {at} {next} item v f a =
    record {
      items = v.items ++ item ∷ [];
      sent = v.sent ++ a.sent;
      reads = reads_one came.reading.limit v.items item (place_with came.reading.place came.piece) at next v.reads f;
      passes = passes_both v.passes a.passes;
      replied = λ disk s represents.
          let b = v.replied (a.passes.honest disk) s represents in
          let x = a.steps disk (state_after config s v.items came.moment) b.represents in
          record {
            represents = subst (λ t. Represents new.store t) (sym (state_after_more config s v.items item came.moment)) x.represents;
            whole = ap (λ bytes. bytes ++ a.sent) b.whole ∙ (ap (λ bytes. replies config s v.items came.moment ++ bytes) x.whole ∙ sym (replies_more config s v.items item came.moment));
            failures = x.failures ∙ b.failures;
          };
      shut = λ disk none.
          let both = shut_both _ _ old mid new v.passes a.passes v.shut a.shut disk none in
          (continues_more item v.sent a.sent both.0.0 both.1.0, leaves_both old.store mid.store new.store both.0.1 both.1.1);
      still = λ disk none.
          let both = shut_both _ _ old mid new v.passes a.passes v.still a.shut disk none in
          still_more config v.items item came.moment v.sent a.sent both.0 both.1.0;
    }

-- a fixed reply in place of the step's
module _ (config : Config) (old new : Outside) (item : Item) (moment : ℕ) (fault : StoreFault)
    (honest : HasCleanDisk new.store → HasCleanDisk old.store) (clean : IsTrue new.store.is_open → IsTrue old.store.is_open)
    (gives : HasCleanDisk new.store → (s : State) → Represents old.store s → GivesUp config s item moment new.store)
    (asks : (sent : List ℕ) (answer : Answered) → IsFixedSent sent answer → IsAnsweredShut item sent answer)
    (shut : IfShut old.store new.store (LeavesNoMore old.store new.store)) where
  fails_given : (how : Answered) (x : SendsOver old.taken new.taken old.failures new.failures (fault_reply fault) how)
      → HasCleanDisk new.store → (s : State) → Represents old.store s → FailsFrom config s item moment x.0 old new (answer_after how)
  fails_given how x disk s represents = let v = gives disk s represents in record {
    left = v.left;
    fails = given_up (is_fixed fault) (sends_up_to (fault_reply fault) x.0 how x.2) v.is_left;
    represents = v.represents;
    stop = v.stop;
    cause = λ e. inl (x.3 (was_cut how e));
  }

  answers_fixed : (answer : Answered) → SendsOver old.taken new.taken old.failures new.failures (fault_reply fault) answer
      → Answers config old new item moment answer
  answers_fixed Sent x = absurd x.2
  answers_fixed GaveUp x = record {
    sent = x.0;
    passes = record { appends = x.1; honest = honest; clean = clean };
    steps = fails_given GaveUp x;
    shut = λ disk none. (asks x.0 GaveUp (fault_reply fault, is_fixed fault, x.2), shut disk none);
  }
  answers_fixed CutShort x = record {
    sent = x.0;
    passes = record { appends = x.1; honest = honest; clean = clean };
    steps = fails_given CutShort x;
    shut = λ disk none. (asks x.0 CutShort (fault_reply fault, is_fixed fault, x.2), shut disk none);
  }

-- an item's own reply, once its step was made
pub answers_from : (config : Config) (s : State) (item : Item) (moment : ℕ) (sent : List ℕ) (old new : Outside) (answer : Answered)
    → SendsStep (step config s item moment) old new sent answer → IsAnsweredBy config s item moment sent old new answer
answers_from config s item moment sent old new Sent h = h
answers_from config s item moment sent old new GaveUp h = absurd h
answers_from config s item moment sent old new CutShort h = record {
  left = (step config s item moment).state;
  fails = cut_short h.part refl;
  represents = h.represents;
  stop = h.stop;
  cause = λ e. h.cause;
}

-- a step is made over one store, and its reply sent over it
pub made_from : (config : Config) (s : State) (item : Item) (moment : ℕ) (sent : List ℕ) (old mid new : Outside) (answer : Answered)
    → mid.failures ≡ old.failures → IsAnsweredBy config s item moment sent mid new answer → IsAnsweredBy config s item moment sent old new answer
made_from config s item moment sent old mid new Sent e h = record { represents = h.represents; whole = h.whole; failures = h.failures ∙ e }
made_from config s item moment sent old mid new GaveUp e h = record {
  left = h.left;
  fails = h.fails;
  represents = h.represents;
  stop = h.stop;
  cause = λ c. subst (λ n. HasRisen n new.failures ⊎ IsCutInContent h.fails) e (h.cause c);
}
made_from config s item moment sent old mid new CutShort e h = record {
  left = h.left;
  fails = h.fails;
  represents = h.represents;
  stop = h.stop;
  cause = λ c. subst (λ n. HasRisen n new.failures ⊎ IsCutInContent h.fails) e (h.cause c);
}

-- over an archive that was shut, it is sent the fixed reply
sent_fixed : (item : Item) → NeedsStep item → (sent : List ℕ) (answer : Answered) → IsFixedSent sent answer → IsAnsweredShut item sent answer
sent_fixed (Fault r head_only) stepped sent answer h = h
sent_fixed Continue stepped sent answer h = absurd stepped
sent_fixed (Request m) stepped sent answer h = h

-- the step of an item, and what was sent for it
module _ (config : Config) (item : Item) (moment : ℕ) (taken : Option (List ℕ)) (failures : ℕ) (old mid : Condition) where
  -- its reply
  pub answers_ready : (new : Outside) (p : Performed) (answer : Answered) → MakesItem config item moment old mid (Ok p) → SendsReady (outside taken failures mid) new p answer
      → Answers config (outside taken failures old) new item moment answer
  answers_ready new p answer makes x = record {
    sent = x.sent;
    passes = record {
      appends = x.passes.appends;
      honest = λ h. makes.honest (x.passes.honest h);
      clean = λ h. makes.was_open (x.passes.clean h);
    };
    steps = λ disk s represents.
        made_from config s item moment x.sent (outside taken failures old) (outside taken failures mid) new answer refl
        (answers_from config s item moment x.sent (outside taken failures mid) new answer
        (x.sends disk (step config s item moment) (makes.makes (x.passes.honest disk) s represents)));
    shut = λ disk none. absurd (makes.shut (x.passes.honest disk) none);
  }

  -- the fixed one
  pub answers_failed : (takes : Option (List ℕ)) (after : ℕ) (fault : StoreFault) (answer : Answered) → MakesItem config item moment old mid (Err fault)
      → SendsOver taken takes failures after (fault_reply fault) answer → Answers config (outside taken failures old) (outside takes after mid) item moment answer
  answers_failed takes after fault answer makes sends =
      answers_fixed config (outside taken failures old) (outside takes after mid) item moment fault makes.honest makes.was_open makes.makes (sent_fixed item makes.stepped) makes.shut answer sends

-- a reply without a stored content, over a store that stays
pub answers_reply : (config : Config) (held holds : Option (List ℕ)) (before after : ℕ) (store : Condition) (item : Item) (moment : ℕ) (answer : Answered) (reply : List ℕ)
    → Settles store → SendsReply held holds reply answer → (answer ≡ Sent → after ≡ before) → (answer ≡ CutShort → HasRisen before after)
    → ((s : State) → Represents store s → Represents store (step config s item moment).state × (reply ≡ sent_by (step config s item moment)))
    → ((sent : List ℕ) → IsReplySent reply sent answer → IsAnsweredShut item sent answer)
    → Answers config (record { taken = held; failures = before; store = store }) (record { taken = holds; failures = after; store = store }) item moment answer
answers_reply config held holds before after store item moment Sent reply settles x kept cause made asks = record {
  sent = x.0;
  passes = passes_at held holds before after store x.0 x.1;
  steps = λ disk s represents. let b = made s represents in record { represents = b.0; whole = x.2 ∙ b.1; failures = kept refl };
  shut = λ disk none. (asks x.0 x.2, leaves_same store);
}
answers_reply config held holds before after store item moment GaveUp reply settles x kept cause made asks = absurd x.2
answers_reply config held holds before after store item moment CutShort reply settles x kept cause made asks = record {
  sent = x.0;
  passes = passes_at held holds before after store x.0 x.1;
  steps = λ disk s represents. let b = made s represents in record {
    left = (step config s item moment).state;
    fails = cut_short (subst (λ (bytes : List ℕ). IsProperPrefix x.0 bytes) b.1 x.2) refl;
    represents = λ _. b.0;
    stop = stays_as store (step config s item moment).state settles b.0;
    cause = λ e. inl (cause refl);
  };
  shut = λ disk none. (asks x.0 x.2, leaves_same store);
}

pub never_open : (continued : Bool) (rest : List ℕ) → Open continued rest ≡ Shut → ⊥
never_open continued rest e = cc

-- an intake that is not dead reads on
pub answer_open : (reading : Reading) → IsDeadIfShut reading → reading.is_dead ≡ false → StaysOpen ≡ answer_at_place reading.place
answer_open reading dead lives = by_place reading.place dead
  where
    by_place : (at : Place) → (at ≡ Shut → reading.is_dead ≡ true) → StaysOpen ≡ answer_at_place at
    by_place (Open continued rest) d = refl
    by_place Shut d = absurd (let bad : true ≡ false = sym (d refl) ∙ lives in cc)

module _ (config : Config) (came : Arrival) (old now : Outside) (at : Place) (v : ServedSoFar config came old now at) where
  -- no item is complete any more
  pub serves_waiting : Settles now.store → (p : Place) → p ≡ at → (answer : Arrived) → (IsDeadIfShut came.reading → answer ≡ answer_at_place at) → answer ≢ Cut → EndsFixed [] answer
      → (came.reading.limit ≡ config.max_upload → Waits config.max_upload at)
      → ServesOver config came old now p answer
  serves_waiting settles p e answer r never ends w = record {
    sent = v.sent;
    passes = v.passes;
    serves = λ same dead disk s represents.
        let b = v.replied disk s represents in
        subst (λ q. ServesFrom config came s v.sent old now q answer) (sym e)
        (subst (λ a. ServesFrom config came s v.sent old now at a) (sym (r dead))
        (subst (λ bytes. ServesFrom config came s bytes old now at (answer_at_place at)) (sym b.whole)
        (record {
          left = state_after config s v.items came.moment;
          serves = serves_all v.items v.reads (w same);
          represents = λ _. b.represents;
          stays_clean = λ _. now.store.open_if_kept (state_after config s v.items came.moment) b.represents;
          stop = stays_as now.store (state_after config s v.items came.moment) settles b.represents;
          cause = λ c. absurd (never (r dead ∙ c));
        })));
    shut = λ disk none. let so_far = v.shut disk none in (sends_no_more v.sent answer ends so_far.0, so_far.1);
    still = λ disk none same dead s.
        let t = v.still disk none s in
        subst (λ q. Serves config (ReadsWith came) s came.moment v.sent s q answer) (sym e)
        (subst (λ a. Serves config (ReadsWith came) s came.moment v.sent s at a) (sym (r dead))
        (subst (λ left. Serves config (ReadsWith came) s came.moment v.sent left at (answer_at_place at)) t.0
        (subst (λ bytes. Serves config (ReadsWith came) s came.moment bytes (state_after config s v.items came.moment) at (answer_at_place at)) t.1
        (serves_all v.items v.reads (w same)))));
  }

  -- a step fails
  pub serves_failed : (new : Outside) (next : Place) (item : Item) (answer : Arrived) (sent : List ℕ) → answer ≢ StaysOpen
      → FirstAt came.reading.limit at item next → Passes now new sent
      → (HasCleanDisk new.store → (s : State) → Represents now.store s → FailsFrom config s item came.moment sent now new answer)
      → IfShut now.store new.store (EndsFixed sent answer × LeavesNoMore now.store new.store × ((s : State) → Fails config s item came.moment sent s answer))
      → ServesOver config came old new Shut answer
  serves_failed new next item answer sent ends f p fails shut = record {
    sent = v.sent ++ sent;
    passes = passes_both v.passes p;
    serves = λ same dead disk s represents.
        let b = v.replied (p.honest disk) s represents in
        let x = fails disk (state_after config s v.items came.moment) b.represents in
        subst (λ bytes. ServesFrom config came s (bytes ++ sent) old new Shut answer) (sym b.whole)
        (record {
          left = x.left;
          serves = step_fails v.items item next (reads_one came.reading.limit v.items item (place_with came.reading.place came.piece) at next v.reads f) x.fails;
          represents = x.represents;
          stays_clean = λ c. absurd (ends c);
          stop = x.stop;
          cause = λ c. subst (λ n. HasRisen n new.failures ⊎ IsCutInContent x.fails) b.failures (x.cause c);
        });
    shut = λ disk none.
        let both = shut_both _ _ old now new v.passes p v.shut shut disk none in
        (sends_behind v.sent sent answer both.0.0 both.1.0, leaves_both old.store now.store new.store both.0.1 both.1.1);
    still = λ disk none same dead s.
        let both = shut_both _ _ old now new v.passes p v.still shut disk none in
        let t = both.0 s in
        subst (λ bytes. Serves config (ReadsWith came) s came.moment (bytes ++ sent) s Shut answer) t.1
        (step_fails v.items item next (reads_one came.reading.limit v.items item (place_with came.reading.place came.piece) at next v.reads f)
        (subst (λ at_state. Fails config at_state item came.moment sent s answer) (sym t.0) (both.1.2 s)));
  }

  -- memory runs out before the next item
  pub serves_gives_up : (new : Outside) (answer : Arrived) → Settles new.store → RunsOut at now new answer → (p : Place) → p ≡ Shut → ServesOver config came old new p answer
  serves_gives_up new answer settles o p e = record {
    sent = v.sent ++ o.sent;
    passes = passes_both v.passes o.stays.passes;
    serves = λ same dead disk s represents.
        let b = v.replied (o.stays.passes.honest disk) s represents in
        let kept = o.stays.state (state_after config s v.items came.moment) b.represents in
        subst (λ q. ServesFrom config came s (v.sent ++ o.sent) old new q answer) (sym e)
        (subst (λ bytes. ServesFrom config came s (bytes ++ o.sent) old new Shut answer) (sym b.whole)
        (record {
          left = state_after config s v.items came.moment;
          serves = gives_up v.items at v.reads o.some o.sends;
          represents = λ _. kept;
          stays_clean = λ _. new.store.open_if_kept (state_after config s v.items came.moment) kept;
          stop = stays_as new.store (state_after config s v.items came.moment) settles kept;
          cause = λ c. inl (subst (λ n. HasRisen n new.failures) b.failures (o.cause c));
        }));
    shut = λ disk none.
        let so_far = v.shut (o.stays.passes.honest disk) none in
        (sends_behind v.sent o.sent answer so_far.0 (fixed.gives_up (inl refl) o.sends), leaves_both old.store now.store new.store so_far.1 o.stays.leaves);
    still = λ disk none same dead s.
        let t = v.still (o.stays.passes.honest disk) none s in
        subst (λ q. Serves config (ReadsWith came) s came.moment (v.sent ++ o.sent) s q answer) (sym e)
        (subst (λ left. Serves config (ReadsWith came) s came.moment (v.sent ++ o.sent) left Shut answer) t.0
        (subst (λ bytes. Serves config (ReadsWith came) s came.moment (bytes ++ o.sent) (state_after config s v.items came.moment) Shut answer) t.1
        (gives_up v.items at v.reads o.some o.sends)));
  }

-- an item is answered, and it is the last
module _ (config : Config) (came : Arrival) (old now new : Outside) (at next : Place) (v : ServedSoFar config came old now at) (settles : Settles new.store) where
  last : (item : Item) (answer : Answered) → FirstAt came.reading.limit at item next → (answer ≡ Sent → next ≡ Shut)
      → Answers config now new item came.moment answer → ServesOver config came old new Shut (answer_after answer)
  last item Sent f e a =
      serves_waiting config came old new next (served_more item v f a) settles Shut (sym (e refl)) Closed (λ dead. ap answer_at_place (sym (e refl))) (λ c. cc) has_ended
      (λ same. subst (λ q. Waits config.max_upload q) (sym (e refl)) tt)
  last item GaveUp f e a = serves_failed config came old now at v new next item Closed a.sent (λ c. cc) f a.passes a.steps
      (λ disk none. let h = a.shut disk none in (ends_fixed item a.sent GaveUp (λ c. cc) h.0, h.1, λ s. fails_still config s item came.moment a.sent GaveUp (λ c. cc) h.0))
  last item CutShort f e a = serves_failed config came old now at v new next item Cut a.sent (λ c. cc) f a.passes a.steps
      (λ disk none. let h = a.shut disk none in (ends_fixed item a.sent CutShort (λ c. cc) h.0, h.1, λ s. fails_still config s item came.moment a.sent CutShort (λ c. cc) h.0))

  pub serves_last : (item : Item) (answer : Answered) → FirstAt came.reading.limit at item next → (answer ≡ Sent → next ≡ Shut)
      → Answers config now new item came.moment answer → (p : Place) → p ≡ Shut → (b : Arrived) → b ≡ answer_after answer
      → ServesOver config came old new p b
  serves_last item answer f e a p q b r =
      subst (λ x. ServesOver config came old new x b) (sym q)
      (subst (λ x. ServesOver config came old new Shut x) (sym r) (last item answer f e a))

-- an item is taken at a limit that stayed
pub first_at : (old limit : ℕ) (at next : Place) (item : Item) → old ≡ limit → FirstAt old at item next → FirstAt limit at item next
first_at old limit at next item e f = subst (λ n. FirstAt n at item next) e f

-- a fault is the end of a stream
pub fault_shuts : (limit : ℕ) (at next : Place) (refusal : Refusal) (head_only : Bool) → FirstAt limit at (Fault refusal head_only) next → next ≡ Shut
fault_shuts limit (Open continued bytes) next refusal head_only f = f.goes_on
fault_shuts limit Shut next refusal head_only f = absurd f

-- so is a request that closes, and no other
request_at : (limit : ℕ) (at next : Place) (m : Message) (ends : Bool) → closes m.head ≡ ends → FirstAt limit at (Request m) next
    → (behind : List ℕ) × (next ≡ (if ends then Shut else Open false behind))
request_at limit (Open continued bytes) next m ends e f = (f.behind, f.goes_on ∙ ap (λ (b : Bool). if b then Shut else Open false f.behind) e)
request_at limit Shut next m ends e f = absurd f

pub request_shuts : (limit : ℕ) (at next : Place) (m : Message) → closes m.head ≡ true → FirstAt limit at (Request m) next → next ≡ Shut
request_shuts limit at next m e f = (request_at limit at next m true e f).1

pub request_goes_on : (limit : ℕ) (at next : Place) (m : Message) → closes m.head ≡ false → FirstAt limit at (Request m) next → next ≡ Shut → ⊥
request_goes_on limit at next m e f shut =
    let r = request_at limit at next m false e f in never_open false r.0 (sym r.1 ∙ shut)

pub continue_goes_on : (limit : ℕ) (at next : Place) → FirstAt limit at Continue next → next ≡ Shut → ⊥
continue_goes_on limit (Open continued bytes) next f shut = never_open true (f.text ++ f.behind) (sym f.goes_on ∙ shut)
continue_goes_on limit Shut next f shut = f

-- bytes that come leave an end where it is
pub fed_dead : (reading : Reading) (piece : List ℕ) → IsDeadIfShut reading → IsDeadIfShut (record reading { place = place_with reading.place piece })
fed_dead reading piece dead = by_place reading.place dead
  where
    by_place : (at : Place) → (at ≡ Shut → reading.is_dead ≡ true) → place_with at piece ≡ Shut → reading.is_dead ≡ true
    by_place (Open continued rest) d e = absurd (never_open continued (rest ++ piece) e)
    by_place Shut d e = d refl
