-- What answering the next item comes to, and how an arrival goes on with it.
use Rattle.std.proofs.Common.{◌≡◌, ◌≢◌, ◌⊎◌, inl, inr, ℕ, Bool, true, false, List, [], Option, None, refl, sym, ap, subst, ◌∙◌}
use Rattle.std.proofs.lemmas.List.{append-nil}
use Rattle.std.specs.Io.KnownBytes.{Appends}
use Rattle.dep_types.specs.declared.config.Config.{Config}
use Rattle.dep_types.specs.declared.outlet.Outlet.{Ghosts}
use Rattle.dep_types.specs.Conditions.{Condition}
use Rattle.dep_types.specs.Writing.{HasRisen}
use Rattle.dep_message.specs.Places.{Place, Open, Shut, Reading, IsOpen, HasBytes, shut_reading}
use Rattle.dep_message.specs.Stream.{Item, Waits}
use Rattle.dep_message.specs.Giving.{Takes}
use Rattle.dep_exchange.specs.Machine.{state_after, answer_at_place, SendsUpTo, out_of_memory}
use Rattle.dep_exchange.specs.Sending.{Outside, Passes, outside, outside_of}
use Rattle.dep_exchange.specs.Owing.{Owing}
use Rattle.dep_exchange.specs.Serving.{KeepsIntake, Arrival, Answers, IsDeadIfShut, ServedSoFar, ServesOver, answer_after}
use Rattle.dep_exchange.specs.Nexts.{Stays, Rests, RunsOut, IsLast, IsDead, Ends, GoesOn, IsWaiting, AnswersNext, TakesNext, arrived_after, next_behind, reading_behind}
use Rattle.dep_exchange.specs.Shut.{EndsFixed, waits, has_ended}
use Rattle.dep_exchange.specs.declared.rest.Rest.{Rest}
use Rattle.dep_exchange.specs.declared.arrived.Arrived.{Arrived}
use Rattle.dep_exchange.specs.declared.arrived.Arrived.TheVariants.{Open as StaysOpen, Closed, Cut, NoSuch}
use Rattle.dep_exchange.specs.declared.next.Next.{Next}
use Rattle.dep_exchange.specs.declared.next.Next.TheVariants.{More}
use Rattle.dep_exchange.specs.declared.next.Next.TheVariants as next
use Rattle.dep_exchange.specs.declared.sending.Answered.{Answered}
use Rattle.dep_exchange.specs.declared.sending.Answered.TheVariants.{Sent, GaveUp, CutShort}
use Rattle.dep_exchange.proofs.Leaving.{Settles}
use Rattle.dep_exchange.proofs.OwingLemmas.{said_now}
use Rattle.dep_exchange.proofs.SendingLemmas.{passes_none, passes_both, passes_at}
use Rattle.dep_exchange.proofs.ShutLemmas.{leaves_same, leaves_both}
use Rattle.dep_exchange.proofs.ServingLemmas.{served_more, serves_waiting, serves_last, serves_gives_up, first_at, answer_open}

-- what an intake keeps it keeps over two stretches
pub keeps_on : (old mid new : Reading) → KeepsIntake old mid → KeepsIntake mid new → KeepsIntake old new
keeps_on old mid new h k = record { limit = k.limit ∙ h.limit; dead = λ dead. k.dead (h.dead dead) }

closed_more : next.Closed ≢ More
closed_more e = cc

cut_more : next.Cut ≢ More
cut_more e = cc

pub open_there : StaysOpen ≢ NoSuch
open_there e = cc

closed_there : Closed ≢ NoSuch
closed_there e = cc

cut_there : Cut ≢ NoSuch
cut_there e = cc

waiting_more : next.Waiting ≢ More
waiting_more e = cc

never_more : (how : Answered) → next_behind how true ≢ More
never_more Sent e = closed_more e
never_more GaveUp e = closed_more e
never_more CutShort e = cut_more e

-- what is not shut is open
is_there : (at : Place) → (at ≡ Shut → ⊥) → IsOpen at
is_there (Open continued rest) never = tt
is_there Shut never = never refl

-- nothing is read any more
pub ends_dead : (reading now : Reading) → now ≡ shut_reading reading → IsDeadIfShut now
ends_dead reading now e = subst IsDeadIfShut (sym e) (λ _. refl)

pub stays_same : (o : Outside) → Stays o o []
stays_same o = record { passes = passes_none o; state = λ s h. h; leaves = leaves_same o.store }

pub rests_same : (o : Outside) → Rests o o
rests_same o = record { stays = stays_same o; failures = refl }

-- the fixed reply for lack of memory, over a store that nothing was asked of
pub runs_out : (place : Place) (taken takes : Option (List ℕ)) (failures after : ℕ) (store : Condition) (answer : Arrived) → HasBytes place
    → (sent : List ℕ) × Appends taken takes sent × SendsUpTo out_of_memory sent answer → (answer ≡ Cut → HasRisen failures after)
    → RunsOut place (outside taken failures store) (outside takes after store) answer
runs_out place taken takes failures after store answer has a cause = record {
  sent = a.0;
  some = has;
  stays = record { passes = passes_at taken takes failures after store a.0 a.1; state = λ s h. h; leaves = leaves_same store };
  sends = a.2;
  cause = cause;
}

-- nothing is read behind a last item
pub reads_last : (mid : Reading) (how : Answered) → reading_behind mid (next_behind how true) ≡ shut_reading mid
reads_last mid Sent = refl
reads_last mid GaveUp = refl
reads_last mid CutShort = refl

-- what an intake gave was answered
module _ (config : Config) (reading mid : Reading) (moment : ℕ) (old new : Outside) where
  abbrev Taken : Next → Type 0
  Taken n = TakesNext config reading (reading_behind mid n) moment old new n

  as_read : (n : Next) (now : Reading) → now ≡ reading_behind mid n → Taken n → TakesNext config reading now moment old new n
  as_read n now read t = subst (λ (r : Reading). TakesNext config reading r moment old new n) (sym read) t

  -- an item: another follows, or it was the last
  module _ (item : Item) (taken : Takes reading mid item) where
    ends_by : (how : Answered) → IsLast config reading moment old new (answer_after how) → AnswersNext config reading moment old new Shut (next_behind how true)
    ends_by Sent v = (refl, inl v)
    ends_by GaveUp v = (refl, inl v)
    ends_by CutShort v = (refl, inl v)

    ends_behind : (how : Answered) → (how ≡ Sent → mid.place ≡ Shut) → Answers config old new item moment how
        → TakesNext config reading (shut_reading mid) moment old new (next_behind how true)
    ends_behind how closes a = record {
      answers = ends_by how (record { item = item; next = mid.place; how = how; first = taken.first; closes = closes; answers = a; answer_is = refl });
      keeps = record { limit = taken.limit; dead = λ dead. ends_dead mid (shut_reading mid) refl };
      less = λ m. absurd (never_more how m);
    }

    behind : (how : Answered) (is_last : Bool) → (is_last ≡ true → mid.place ≡ Shut) → (is_last ≡ false → mid.place ≡ Shut → ⊥)
        → Answers config old new item moment how → Taken (next_behind how is_last)
    behind Sent false closes goes a = record {
      answers = record { item = item; first = taken.first; is_open = is_there mid.place (goes refl); answers = a };
      keeps = record { limit = taken.limit; dead = λ dead shut. absurd (goes refl shut) };
      less = λ m. taken.less;
    }
    behind Sent true closes goes a = ends_behind Sent (λ sent. closes refl) a
    behind GaveUp is_last closes goes a = ends_behind GaveUp (λ sent. cc) a
    behind CutShort is_last closes goes a = ends_behind CutShort (λ sent. cc) a

    pub takes_next : (is_last : Bool) → (is_last ≡ true → mid.place ≡ Shut) → (is_last ≡ false → mid.place ≡ Shut → ⊥)
        → (how : Answered) → Answers config old new item moment how → (n : Next) → n ≡ next_behind how is_last
        → (now : Reading) → now ≡ reading_behind mid n → TakesNext config reading now moment old new n
    takes_next is_last closes goes how a n e now read = as_read n now read (subst Taken (sym e) (behind how is_last closes goes a))

  -- memory ran out
  lack_by : (how : Answered) → RunsOut reading.place old new (answer_after how) → AnswersNext config reading moment old new Shut (next_behind how true)
  lack_by Sent o = (refl, inr (inl o))
  lack_by GaveUp o = (refl, inr (inl o))
  lack_by CutShort o = (refl, inr (inl o))

  ends_out : (how : Answered) → mid ≡ reading → RunsOut reading.place old new (answer_after how) → TakesNext config reading (shut_reading mid) moment old new (next_behind how true)
  ends_out how same o = record {
    answers = lack_by how o;
    keeps = record { limit = ap (λ (r : Reading). r.limit) same; dead = λ dead. ends_dead mid (shut_reading mid) refl };
    less = λ m. absurd (never_more how m);
  }

  pub takes_lack : (how : Answered) → mid ≡ reading → RunsOut reading.place old new (answer_after how) → (n : Next) → n ≡ next_behind how true
      → (now : Reading) → now ≡ reading_behind mid n → TakesNext config reading now moment old new n
  takes_lack how same o n e now read = as_read n now read
      (subst Taken (sym e) (subst (λ r. TakesNext config reading r moment old new (next_behind how true)) (sym (reads_last mid how)) (ends_out how same o)))

-- nothing is complete, or nothing is read any more
module _ (config : Config) (reading mid : Reading) (moment : ℕ) (old : Outside) (same : mid ≡ reading) where
  keeps_same : KeepsIntake reading mid
  keeps_same = record { limit = ap (λ (r : Reading). r.limit) same; dead = λ dead. subst IsDeadIfShut (sym same) dead }

  pub takes_waiting : Waits reading.limit reading.place → reading.is_dead ≡ false → TakesNext config reading mid moment old old next.Waiting
  takes_waiting w lives = record {
    answers = record { same = ap (λ (r : Reading). r.place) same; waits = w; lives = lives; rests = rests_same old };
    keeps = keeps_same;
    less = λ m. absurd (waiting_more m);
  }

  pub takes_dead : reading.place ≡ Shut → TakesNext config reading mid moment old old next.Closed
  takes_dead shut = record {
    answers = (ap (λ (r : Reading). r.place) same ∙ shut, inr (inr (record { shut = shut; rests = rests_same old; answer_is = refl })));
    keeps = keeps_same;
    less = λ m. absurd (closed_more m);
  }

-- a connection has ended behind its last answer
pub arrived_last : (how : Answered) → arrived_after (next_behind how true) ≡ answer_after how
arrived_last Sent = refl
arrived_last GaveUp = refl
arrived_last CutShort = refl

-- nothing more was sent
served_stays : {config : Config} {came : Arrival} {old mid new : Outside} {at : Place} → ServedSoFar config came old mid at → Rests mid new
    → ServedSoFar config came old new at
served_stays {config} {came} {old} {mid} {new} {at} v r = record {
  items = v.items;
  sent = v.sent;
  reads = v.reads;
  passes = subst (λ bytes. Passes old new bytes) (append-nil v.sent) (passes_both v.passes r.stays.passes);
  replied = λ disk s represents.
      let b = v.replied (r.stays.passes.honest disk) s represents in
      record { represents = r.stays.state (state_after config s v.items came.moment) b.represents; whole = b.whole; failures = r.failures ∙ b.failures };
  shut = λ disk none. let so_far = v.shut (r.stays.passes.honest disk) none in (so_far.0, leaves_both old.store mid.store new.store so_far.1 r.stays.leaves);
  still = λ disk none. v.still (r.stays.passes.honest disk) none;
}

module _ (config : Config) (came : Arrival) (old mid new : Outside) (reading : Reading) (v : ServedSoFar config came old mid reading.place)
    (limit : reading.limit ≡ came.reading.limit) where
  -- an item more is answered
  pub served_on : {next : Place} → GoesOn config reading came.moment mid new next → ServedSoFar config came old new next
  served_on {next} g = served_more g.item v (first_at _ _ _ next g.item limit g.first) g.answers

  -- no item is complete any more
  serves_wait : (next : Place) → Settles new.store → (IsDeadIfShut came.reading → IsDeadIfShut reading) → IsWaiting reading mid new next
      → ServesOver config came old new next StaysOpen
  serves_wait next settles dead w =
      serves_waiting config came old new reading.place (served_stays v w.rests) settles next w.same StaysOpen (λ d. answer_open reading (dead d) w.lives) (λ e. cc) waits
      (λ same. subst (λ n. Waits n reading.place) (limit ∙ same) w.waits)

  -- nothing is read any more
  serves_dead : (answer : Arrived) (p : Place) → Settles new.store → p ≡ Shut → IsDead reading mid new answer → ServesOver config came old new p answer
  serves_dead answer p settles e d =
      serves_waiting config came old new reading.place (served_stays v d.rests) settles p (e ∙ sym d.shut) answer
      (λ _. d.answer_is ∙ ap answer_at_place (sym d.shut)) (λ c. let bad : Closed ≡ Cut = sym d.answer_is ∙ c in cc) (subst (λ a. EndsFixed [] a) (sym d.answer_is) has_ended)
      (λ same. subst (λ q. Waits config.max_upload q) (sym d.shut) tt)

  serves_by : (answer : Arrived) (p : Place) → Settles new.store → p ≡ Shut
      → IsLast config reading came.moment mid new answer ⊎ (RunsOut reading.place mid new answer ⊎ IsDead reading mid new answer)
      → ServesOver config came old new p answer
  serves_by answer p settles e (inl l) =
      serves_last config came old mid new reading.place l.next v settles l.item l.how (first_at _ _ _ l.next l.item limit l.first) l.closes l.answers p e answer l.answer_is
  serves_by answer p settles e (inr (inl o)) = serves_gives_up config came old mid reading.place v new answer settles o p e
  serves_by answer p settles e (inr (inr d)) = serves_dead answer p settles e d

  -- the connection ends
  serves_end : (answer : Arrived) (p : Place) → Settles new.store → Ends config reading came.moment mid new p answer → ServesOver config came old new p answer
  serves_end answer p settles x = serves_by answer p settles x.0 x.1

  -- no item is answered any more
  pub serves_stop : (n : Next) (at : Place) → Settles new.store → (IsDeadIfShut came.reading → IsDeadIfShut reading) → n ≢ More
      → AnswersNext config reading came.moment mid new at n → ServesOver config came old new at (arrived_after n)
  serves_stop More at settles dead never a = absurd (never refl)
  serves_stop next.Waiting at settles dead never a = serves_wait at settles dead a
  serves_stop next.Closed at settles dead never a = serves_end Closed at settles a
  serves_stop next.Cut at settles dead never a = serves_end Cut at settles a
  serves_stop next.NoSuch at settles dead never a = absurd a

-- and it is there
pub arrived_there : (config : Config) (reading : Reading) (moment : ℕ) (old new : Outside) (at : Place) (n : Next) → AnswersNext config reading moment old new at n → arrived_after n ≢ NoSuch
arrived_there config reading moment old new at More a = open_there
arrived_there config reading moment old new at next.Waiting a = open_there
arrived_there config reading moment old new at next.Closed a = closed_there
arrived_there config reading moment old new at next.Cut a = cut_there
arrived_there config reading moment old new at next.NoSuch a = absurd a

-- an item is answered over a connection that is there
pub next_there : (config : Config) (reading : Reading) (moment : ℕ) (before after : Outside) (at : Place) (n : Next) → AnswersNext config reading moment before after at n → n ≢ next.NoSuch
next_there config reading moment before after at n t e = subst (λ a. AnswersNext config reading moment before after at a) e t

-- what was sent for it
module _ (config : Config) (reading : Reading) (moment : ℕ) (before after : Outside) (at : Place) where
  ends_pass : (answer : Arrived) → IsLast config reading moment before after answer ⊎ (RunsOut reading.place before after answer ⊎ IsDead reading before after answer)
      → (sent : List ℕ) × Passes before after sent
  ends_pass answer (inl l) = (l.answers.sent, l.answers.passes)
  ends_pass answer (inr (inl o)) = (o.sent, o.stays.passes)
  ends_pass answer (inr (inr d)) = ([], d.rests.stays.passes)

  pub next_passes : (n : Next) → AnswersNext config reading moment before after at n → (sent : List ℕ) × Passes before after sent
  next_passes More g = (g.answers.sent, g.answers.passes)
  next_passes next.Waiting w = ([], w.rests.stays.passes)
  next_passes next.Closed e = ends_pass Closed e.1
  next_passes next.Cut e = ends_pass Cut e.1
  next_passes next.NoSuch e = absurd e

-- where nothing is sent later, the next item was answered by what was sent
pub answered_now : {O : Type 0} (g : Ghosts O) (config : Config) (reading now : Reading) (moment : ℕ) (before after : O) (old new : Condition) (n : Next) (r : Option Rest)
    → r ≡ None → Owing g before after new r (λ at. TakesNext config reading now moment (outside_of g before old) at n)
    → TakesNext config reading now moment (outside_of g before old) (outside_of g after new) n
answered_now g config reading now moment before after old new n r none y =
    said_now g before after new r (λ at. TakesNext config reading now moment (outside_of g before old) at n) none y
