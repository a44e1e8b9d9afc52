-- What arrives of the bytes that a connection holds, as its next item is answered.
use Rattle.std.proofs.Common.{true, false, ◌≡◌, ◌≢◌, ◌⊎◌, inl, inr, ℕ, List, [], ◌∷◌, ◌++◌, length, IsTrue, refl, sym, subst, ◌∙◌}
use Rattle.std.proofs.lemmas.List.{append-nil}
use Rattle.dep_types.specs.State.{State}
use Rattle.dep_types.specs.Writing.{HasRisen}
use Rattle.dep_types.specs.declared.config.Config.{Config}
use Rattle.dep_types.specs.Conditions.{Represents, HasCleanDisk, Leaves}
use Rattle.dep_answers.specs.Steps.{sent_by}
use Rattle.dep_message.specs.Places.{Place, Shut, Reading, HasBytes, place_with}
use Rattle.dep_message.specs.Stream.{Item, FirstAt}
use Rattle.dep_exchange.specs.Machine.{step, replies, state_after, serves_all, step_fails, gives_up}
use Rattle.dep_exchange.specs.Records.{Line, Absent, Live, ShutLine, ReadsBeyond, Arrives, at_live, at_shut_line, LeftByArrival}
use Rattle.dep_exchange.specs.Causes.{IsCutWhileStreaming}
use Rattle.dep_exchange.specs.Sending.{Outside}
use Rattle.dep_exchange.specs.Serving.{Answers, FailsFrom, IsAnsweredShut, IsDeadIfShut, IsStill, OnlyContinues, answer_after}
use Rattle.dep_exchange.specs.Shut.{waits, has_ended}
use Rattle.dep_exchange.specs.Shut as fixed
use Rattle.dep_exchange.specs.Nexts.{RunsOut, IsLast, IsDead, GoesOn, IsWaiting, AnswersNext, arrived_after}
use Rattle.dep_hub.specs.Representing.{IsShut}
use Rattle.dep_hub.specs.Holding.{ArrivalOutcome, ArrivesAs, items_answered, IsNext}
use Rattle.dep_exchange.specs.declared.arrived.Arrived.{Arrived}
use Rattle.dep_exchange.specs.declared.arrived.Arrived.TheVariants as came
use Rattle.dep_exchange.specs.declared.next.Next.{Next}
use Rattle.dep_exchange.specs.declared.next.Next.TheVariants.{More, Waiting, Closed, Cut, NoSuch}
use Rattle.dep_exchange.specs.declared.sending.Answered.{Answered}
use Rattle.dep_exchange.specs.declared.sending.Answered.TheVariants.{Sent, GaveUp, CutShort}
use Rattle.dep_exchange.proofs.Leaving.{Settles, stays_as}
use Rattle.dep_exchange.proofs.ShutLemmas.{continues_more, ends_fixed, sends_behind, sends_no_more}
use Rattle.dep_exchange.proofs.ServingLemmas.{still_more, fails_still}
use Rattle.dep_hub.proofs.HubLemmas.{beyond, open_shut}
use Rattle.dep_hub.proofs.HeldLemmas.{no_bytes, closed_cut, none_of_one, one_of_one, NextPart, StillPart, Keeps, NextOver, keeps_limit, ended_limit, keeps_place, ended_place, live_open, ended_dead, keeps_dead, first_of, no_first, Reaches, reaches_next, reaches_none}
use Rattle.dep_hub.proofs.Endings.{place_nothing}

module _ (config : Config) (moment : ℕ) (old new : Outside) (now : Reading) (settles : Settles new.store) (outcome : ArrivalOutcome) where
  -- the items are answered, and the connection stays open
  part_live : (stream offered : List ℕ) (s : State) (items : List Item) (sent : List ℕ) (r : Reaches config.max_upload stream offered items now)
      → outcome (length items) r.rest (replies config s items moment)
      → replies config s items moment ≡ sent → Represents new.store (state_after config s items moment)
      → NextPart config offered moment (Live stream) s sent old new now came.Open outcome
  part_live stream offered s items sent r is e represents =
      subst (λ bytes. NextPart config offered moment (Live stream) s bytes old new now came.Open outcome) e
      (record {
        part = r.part;
        rest = r.rest;
        whole = r.whole;
        left = state_after config s items moment;
        becomes = Live (stream ++ r.part);
        arrival = at_live (serves_all items r.reads r.is_waiting);
        outcome_is = is;
        represents = λ _. represents;
        stays_clean = λ _. new.store.open_if_kept (state_after config s items moment) represents;
        kept = r.kept;
        stop = stays_as new.store (state_after config s items moment) settles represents;
        cause = λ c. cc;
      })

  still_live : (stream offered : List ℕ) (items : List Item) (sent : List ℕ) (r : Reaches config.max_upload stream offered items now)
      → ((s : State) → outcome (length items) r.rest (replies config s items moment))
      → IsStill config items moment sent → StillPart config offered moment (Live stream) sent now came.Open outcome
  still_live stream offered items sent r is stays = record {
    part = r.part;
    rest = r.rest;
    whole = r.whole;
    becomes = Live (stream ++ r.part);
    arrival = λ s.
        subst (λ left. ArrivesAs outcome config r.part moment (Live stream) s sent left (Live (stream ++ r.part)) came.Open r.rest) (stays s).0
        (subst (λ bytes. ArrivesAs outcome config r.part moment (Live stream) s bytes (state_after config s items moment) (Live (stream ++ r.part)) came.Open r.rest) (stays s).1
        (at_live (serves_all items r.reads r.is_waiting), is s));
    kept = r.kept;
  }

  -- all of the bytes arrive, and the connection ends
  part_shut : (line : Line) (offered : List ℕ) (s left : State) (sent : List ℕ) (answer : Arrived) (v : Arrives config offered moment line s sent left ShutLine answer)
      → outcome (items_answered v) [] sent → answer ≢ came.Open → (IsTrue new.store.is_open → Represents new.store left) → IsShut config.max_upload now
      → Leaves new.store (LeftByArrival v) → (answer ≡ came.Cut → HasRisen old.failures new.failures ⊎ IsCutWhileStreaming v)
      → NextPart config offered moment line s sent old new now answer outcome
  part_shut line offered s left sent answer v is ends represents shut stop cause = record {
    part = offered;
    rest = [];
    whole = sym (append-nil offered);
    left = left;
    becomes = ShutLine;
    arrival = v;
    outcome_is = is;
    represents = represents;
    stays_clean = λ e. absurd (ends e);
    kept = (now, shut, λ i. record { limit = now.limit; place = sym (place_nothing now.place) i; is_dead = now.is_dead });
    stop = stop;
    cause = cause;
  }

  still_shut : (line : Line) (offered : List ℕ) (sent : List ℕ) (answer : Arrived) → ((s : State) → ArrivesAs outcome config offered moment line s sent s ShutLine answer [])
      → IsShut config.max_upload now → StillPart config offered moment line sent now answer outcome
  still_shut line offered sent answer v shut = record {
    part = offered;
    rest = [];
    whole = sym (append-nil offered);
    becomes = ShutLine;
    arrival = v;
    kept = (now, shut, λ i. record { limit = now.limit; place = sym (place_nothing now.place) i; is_dead = now.is_dead });
  }

-- only what tells a client to go on was sent
one_continue : (item : Item) (sent : List ℕ) → IsAnsweredShut item sent Sent → OnlyContinues sent
one_continue item sent h = continues_more item [] sent (0, refl) h

one_still : (config : Config) (item : Item) (moment : ℕ) (sent : List ℕ) → IsAnsweredShut item sent Sent → IsStill config (item ∷ []) moment sent
one_still config item moment sent h = still_more config [] item moment [] sent (λ s. (refl, refl)) h

module _ (config : Config) (moment : ℕ) (old new : Outside) (reading now : Reading) (settles : Settles new.store) (same : now.limit ≡ reading.limit)
    (dead : IsDeadIfShut reading → IsDeadIfShut now) where
  live_shut : (stream offered : List ℕ) → Keeps config.max_upload (Live stream) offered reading → now.place ≡ Shut → IsShut config.max_upload now
  live_shut stream offered k shut =
      record { same_limit = same ∙ keeps_limit config.max_upload offered reading stream k; shut = shut; dead = dead (keeps_dead config.max_upload offered reading (Live stream) k) shut }

  ended_shut : (offered : List ℕ) → Keeps config.max_upload ShutLine offered reading → now.place ≡ Shut → IsShut config.max_upload now
  ended_shut offered k shut =
      record { same_limit = same ∙ ended_limit config.max_upload offered reading k; shut = shut; dead = dead (keeps_dead config.max_upload offered reading ShutLine k) shut }

  -- ---- an item was answered, and the connection goes on
  pub over_more : GoesOn config reading moment old new now.place → NextOver config reading now moment old new came.Open (IsNext More)
  over_more g = record {
    sent = g.answers.sent;
    appends = g.answers.passes.appends;
    parts = parts;
    sends = λ disk none. let h = g.answers.shut disk none in (sends_no_more g.answers.sent came.Open waits (one_continue g.item g.answers.sent h.0), h.1);
    still = λ disk none. still (g.answers.shut disk none).0;
  }
    where
      parts : HasCleanDisk new.store → (line : Line) (s : State) (offered : List ℕ) → Keeps config.max_upload line offered reading → Represents old.store s
          → NextPart config offered moment line s g.answers.sent old new now came.Open (IsNext More)
      parts disk Absent s offered k represents = absurd k.keeps
      parts disk (Live stream) s offered k represents =
          let x = g.answers.steps disk s represents in
          part_live config moment old new now settles (IsNext More) stream offered s (g.item ∷ []) g.answers.sent
          (reaches_next config.max_upload stream offered reading now g.item k same g.first g.is_open) refl
          (append-nil (sent_by (step config s g.item moment)) ∙ sym x.whole) x.represents
      parts disk ShutLine s offered k represents = absurd (no_first config.max_upload offered reading g.item now.place k g.first)

      still : IsAnsweredShut g.item g.answers.sent Sent → (line : Line) (offered : List ℕ) → Keeps config.max_upload line offered reading
          → StillPart config offered moment line g.answers.sent now came.Open (IsNext More)
      still h Absent offered k = absurd k.keeps
      still h (Live stream) offered k =
          still_live config moment old new now settles (IsNext More) stream offered (g.item ∷ []) g.answers.sent
          (reaches_next config.max_upload stream offered reading now g.item k same g.first g.is_open) (λ s. refl) (one_still config g.item moment g.answers.sent h)
      still h ShutLine offered k = absurd (no_first config.max_upload offered reading g.item now.place k g.first)

  -- ---- no item is complete
  pub over_waiting : IsWaiting reading old new now.place → NextOver config reading now moment old new came.Open (IsNext Waiting)
  over_waiting w = record {
    sent = [];
    appends = w.rests.stays.passes.appends;
    parts = λ _. parts;
    sends = λ disk none. (sends_no_more [] came.Open waits (0, refl), w.rests.stays.leaves);
    still = λ disk none. still;
  }
    where
      parts : (line : Line) (s : State) (offered : List ℕ) → Keeps config.max_upload line offered reading → Represents old.store s
          → NextPart config offered moment line s [] old new now came.Open (IsNext Waiting)
      parts Absent s offered k represents = absurd k.keeps
      parts (Live stream) s offered k represents =
          let r = reaches_none config.max_upload stream offered reading now k same w.same w.waits in
          part_live config moment old new now settles (IsNext Waiting) stream offered s [] [] r.0 (refl, r.1, refl) refl (w.rests.stays.state s represents)
      parts ShutLine s offered k represents = absurd (let bad : true ≡ false = sym (ended_dead config.max_upload offered reading k) ∙ w.lives in cc)

      still : (line : Line) (offered : List ℕ) → Keeps config.max_upload line offered reading → StillPart config offered moment line [] now came.Open (IsNext Waiting)
      still Absent offered k = absurd k.keeps
      still (Live stream) offered k =
          let r = reaches_none config.max_upload stream offered reading now k same w.same w.waits in
          still_live config moment old new now settles (IsNext Waiting) stream offered [] [] r.0 (λ s. (refl, r.1, refl)) (λ s. (refl, refl))
      still ShutLine offered k = absurd (let bad : true ≡ false = sym (ended_dead config.max_upload offered reading k) ∙ w.lives in cc)

  -- ---- memory ran out
  pub over_out : (answer : Arrived) (outcome : ArrivalOutcome) (o : RunsOut reading.place old new answer) → outcome 0 [] o.sent → answer ≢ came.Open → now.place ≡ Shut
      → NextOver config reading now moment old new answer outcome
  over_out answer outcome o is ends shut = record {
    sent = o.sent;
    appends = o.stays.passes.appends;
    parts = λ _. parts;
    sends = λ disk none. (sends_behind [] o.sent answer (0, refl) (fixed.gives_up (inl refl) o.sends), o.stays.leaves);
    still = λ disk none. still;
  }
    where
      arrives : (stream offered : List ℕ) (s : State) → Keeps config.max_upload (Live stream) offered reading → ArrivesAs outcome config offered moment (Live stream) s o.sent s ShutLine answer []
      arrives stream offered s k =
          let at = place_with k.head_only.place offered in (
            at_live (gives_up [] at (beyond config.max_upload stream offered k.head_only k.keeps [] at refl)
                (subst (λ p. HasBytes p) (keeps_place config.max_upload offered reading (Live stream) k) o.some) o.sends),
            is,
          )

      parts : (line : Line) (s : State) (offered : List ℕ) → Keeps config.max_upload line offered reading → Represents old.store s
          → NextPart config offered moment line s o.sent old new now answer outcome
      parts Absent s offered k represents = absurd k.keeps
      parts (Live stream) s offered k represents =
          let at = place_with k.head_only.place offered in
          part_shut config moment old new now settles outcome (Live stream) offered s s o.sent answer
          (at_live (gives_up [] at (beyond config.max_upload stream offered k.head_only k.keeps [] at refl)
          (subst (λ p. HasBytes p) (keeps_place config.max_upload offered reading (Live stream) k) o.some) o.sends))
          is ends (λ _. o.stays.state s represents) (live_shut stream offered k shut) (stays_as new.store s settles (o.stays.state s represents)) (λ c. inl (o.cause c))
      parts ShutLine s offered k represents = absurd (no_bytes reading.place o.some (ended_place config.max_upload offered reading k))

      still : (line : Line) (offered : List ℕ) → Keeps config.max_upload line offered reading → StillPart config offered moment line o.sent now answer outcome
      still Absent offered k = absurd k.keeps
      still (Live stream) offered k =
          still_shut config moment old new now settles outcome (Live stream) offered o.sent answer (λ s. arrives stream offered s k) (live_shut stream offered k shut)
      still ShutLine offered k = absurd (no_bytes reading.place o.some (ended_place config.max_upload offered reading k))

  -- ---- nothing was read any more
  pub over_dead : IsDead reading old new came.Closed → now.place ≡ Shut → NextOver config reading now moment old new came.Closed (IsNext Closed)
  over_dead d shut = record {
    sent = [];
    appends = d.rests.stays.passes.appends;
    parts = λ _. parts;
    sends = λ disk none. (sends_no_more [] came.Closed has_ended (0, refl), d.rests.stays.leaves);
    still = λ disk none. still;
  }
    where
      parts : (line : Line) (s : State) (offered : List ℕ) → Keeps config.max_upload line offered reading → Represents old.store s
          → NextPart config offered moment line s [] old new now came.Closed (IsNext Closed)
      parts Absent s offered k represents = absurd k.keeps
      parts (Live stream) s offered k represents = absurd (open_shut reading.place (live_open config.max_upload offered reading stream k) d.shut)
      parts ShutLine s offered k represents =
          part_shut config moment old new now settles (IsNext Closed) ShutLine offered s s [] came.Closed at_shut_line (none_of_one, refl) (λ e. cc)
          (λ _. d.rests.stays.state s represents) (ended_shut offered k shut) (stays_as new.store s settles (d.rests.stays.state s represents)) (λ c. absurd (closed_cut c))

      still : (line : Line) (offered : List ℕ) → Keeps config.max_upload line offered reading → StillPart config offered moment line [] now came.Closed (IsNext Closed)
      still Absent offered k = absurd k.keeps
      still (Live stream) offered k = absurd (open_shut reading.place (live_open config.max_upload offered reading stream k) d.shut)
      still ShutLine offered k =
          still_shut config moment old new now settles (IsNext Closed) ShutLine offered [] came.Closed (λ s. (at_shut_line, (none_of_one, refl))) (ended_shut offered k shut)

  -- ---- the last item was answered
  over_sent : (item : Item) (next : Place) → FirstAt reading.limit reading.place item next → next ≡ Shut → Answers config old new item moment Sent → now.place ≡ Shut
      → NextOver config reading now moment old new came.Closed (IsNext Closed)
  over_sent item next f ends a shut = record {
    sent = a.sent;
    appends = a.passes.appends;
    parts = parts;
    sends = λ disk none. let h = a.shut disk none in (sends_no_more a.sent came.Closed has_ended (one_continue item a.sent h.0), h.1);
    still = λ disk none. still (a.shut disk none).0;
  }
    where
      reads : (stream offered : List ℕ) → Keeps config.max_upload (Live stream) offered reading → ReadsBeyond config.max_upload stream offered (item ∷ []) Shut
      reads stream offered k =
          beyond config.max_upload stream offered k.head_only k.keeps (item ∷ []) Shut
          (Shut, subst (λ p. FirstAt config.max_upload (place_with k.head_only.place offered) item p) ends (first_of config.max_upload offered reading stream item next k f), refl)

      parts : HasCleanDisk new.store → (line : Line) (s : State) (offered : List ℕ) → Keeps config.max_upload line offered reading → Represents old.store s
          → NextPart config offered moment line s a.sent old new now came.Closed (IsNext Closed)
      parts disk Absent s offered k represents = absurd k.keeps
      parts disk (Live stream) s offered k represents =
          let x = a.steps disk s represents in
          subst (λ bytes. NextPart config offered moment (Live stream) s bytes old new now came.Closed (IsNext Closed)) (append-nil (sent_by (step config s item moment)) ∙ sym x.whole)
          (part_shut config moment old new now settles (IsNext Closed) (Live stream) offered s (step config s item moment).state (replies config s (item ∷ []) moment) came.Closed
          (at_live (serves_all (item ∷ []) {at = Shut} (reads stream offered k) tt)) (one_of_one, refl) (λ e. cc) (λ _. x.represents) (live_shut stream offered k shut)
          (stays_as new.store (step config s item moment).state settles x.represents) (λ c. absurd (closed_cut c)))
      parts disk ShutLine s offered k represents = absurd (no_first config.max_upload offered reading item next k f)

      still : IsAnsweredShut item a.sent Sent → (line : Line) (offered : List ℕ) → Keeps config.max_upload line offered reading
          → StillPart config offered moment line a.sent now came.Closed (IsNext Closed)
      still h Absent offered k = absurd k.keeps
      still h (Live stream) offered k =
          let stays = one_still config item moment a.sent h in
          still_shut config moment old new now settles (IsNext Closed) (Live stream) offered a.sent came.Closed
          (λ s. subst (λ left. ArrivesAs (IsNext Closed) config offered moment (Live stream) s a.sent left ShutLine came.Closed []) (stays s).0
          (subst (λ bytes. ArrivesAs (IsNext Closed) config offered moment (Live stream) s bytes (step config s item moment).state ShutLine came.Closed []) (stays s).1
          (at_live (serves_all (item ∷ []) {at = Shut} (reads stream offered k) tt), (one_of_one, refl))))
          (live_shut stream offered k shut)
      still h ShutLine offered k = absurd (no_first config.max_upload offered reading item next k f)

  -- it was not answered by all of its own reply
  over_failed : (item : Item) (next : Place) (how : Answered) (outcome : ArrivalOutcome) → FirstAt reading.limit reading.place item next → how ≢ Sent
      → (a : Answers config old new item moment how) → outcome 1 [] a.sent → answer_after how ≢ came.Open → now.place ≡ Shut
      → (HasCleanDisk new.store → (s : State) → Represents old.store s → FailsFrom config s item moment a.sent old new (answer_after how))
      → NextOver config reading now moment old new (answer_after how) outcome
  over_failed item next how outcome f never a is ends shut fails = record {
    sent = a.sent;
    appends = a.passes.appends;
    parts = parts;
    sends = λ disk none. let h = a.shut disk none in (sends_behind [] a.sent (answer_after how) (0, refl) (ends_fixed item a.sent how never h.0), h.1);
    still = λ disk none. still (a.shut disk none).0;
  }
    where
      reads : (stream offered : List ℕ) → Keeps config.max_upload (Live stream) offered reading → ReadsBeyond config.max_upload stream offered (item ∷ []) next
      reads stream offered k =
          beyond config.max_upload stream offered k.head_only k.keeps (item ∷ []) next (next, first_of config.max_upload offered reading stream item next k f, refl)

      parts : HasCleanDisk new.store → (line : Line) (s : State) (offered : List ℕ) → Keeps config.max_upload line offered reading → Represents old.store s
          → NextPart config offered moment line s a.sent old new now (answer_after how) outcome
      parts disk Absent s offered k represents = absurd k.keeps
      parts disk (Live stream) s offered k represents =
          let x = fails disk s represents in
          part_shut config moment old new now settles outcome (Live stream) offered s x.left a.sent (answer_after how)
          (at_live (step_fails [] item next (reads stream offered k) x.fails)) is ends x.represents (live_shut stream offered k shut) x.stop x.cause
      parts disk ShutLine s offered k represents = absurd (no_first config.max_upload offered reading item next k f)

      still : IsAnsweredShut item a.sent how → (line : Line) (offered : List ℕ) → Keeps config.max_upload line offered reading
          → StillPart config offered moment line a.sent now (answer_after how) outcome
      still h Absent offered k = absurd k.keeps
      still h (Live stream) offered k =
          still_shut config moment old new now settles outcome (Live stream) offered a.sent (answer_after how)
          (λ s. (at_live (step_fails [] item next (reads stream offered k) (fails_still config s item moment a.sent how never h)), is)) (live_shut stream offered k shut)
      still h ShutLine offered k = absurd (no_first config.max_upload offered reading item next k f)

  closed_by : (item : Item) (next : Place) (how : Answered) → FirstAt reading.limit reading.place item next → (how ≡ Sent → next ≡ Shut)
      → Answers config old new item moment how → came.Closed ≡ answer_after how → now.place ≡ Shut → NextOver config reading now moment old new came.Closed (IsNext Closed)
  closed_by item next Sent f ends a e shut = over_sent item next f (ends refl) a shut
  closed_by item next GaveUp f ends a e shut = over_failed item next GaveUp (IsNext Closed) f (λ e. cc) a (one_of_one, refl) (λ o. cc) shut a.steps
  closed_by item next CutShort f ends a e shut = absurd (closed_cut e)

  cut_by : (item : Item) (next : Place) (how : Answered) → FirstAt reading.limit reading.place item next
      → Answers config old new item moment how → came.Cut ≡ answer_after how → now.place ≡ Shut → NextOver config reading now moment old new came.Cut (IsNext Cut)
  cut_by item next Sent f a e shut = absurd (closed_cut (sym e))
  cut_by item next GaveUp f a e shut = absurd (closed_cut (sym e))
  cut_by item next CutShort f a e shut = over_failed item next CutShort (IsNext Cut) f (λ e. cc) a (one_of_one, refl) (λ o. cc) shut a.steps

  over_closed : now.place ≡ Shut → IsLast config reading moment old new came.Closed ⊎ (RunsOut reading.place old new came.Closed ⊎ IsDead reading old new came.Closed)
      → NextOver config reading now moment old new came.Closed (IsNext Closed)
  over_closed shut (inl l) = closed_by l.item l.next l.how l.first l.closes l.answers l.answer_is shut
  over_closed shut (inr (inl o)) = over_out came.Closed (IsNext Closed) o (none_of_one, refl) (λ e. cc) shut
  over_closed shut (inr (inr d)) = over_dead d shut

  over_cut : now.place ≡ Shut → IsLast config reading moment old new came.Cut ⊎ (RunsOut reading.place old new came.Cut ⊎ IsDead reading old new came.Cut)
      → NextOver config reading now moment old new came.Cut (IsNext Cut)
  over_cut shut (inl l) = cut_by l.item l.next l.how l.first l.answers l.answer_is shut
  over_cut shut (inr (inl o)) = over_out came.Cut (IsNext Cut) o (none_of_one, refl) (λ e. cc) shut
  over_cut shut (inr (inr d)) = absurd (closed_cut (sym d.answer_is))

  -- ---- whatever it was
  pub over_next : (n : Next) → AnswersNext config reading moment old new now.place n → NextOver config reading now moment old new (arrived_after n) (IsNext n)
  over_next More g = over_more g
  over_next Waiting w = over_waiting w
  over_next Closed e = over_closed e.0 e.1
  over_next Cut e = over_cut e.0 e.1
  over_next NoSuch e = absurd e
