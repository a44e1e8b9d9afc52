-- How a conversation goes on, and how it ends.
use Rattle.std.proofs.Common.{IsTrue, arith, ◌+◌, ◌<◌, ◌≤◌, ◌⊎◌, inl, inr, zero, suc, length, ◌≡◌, ℕ, Bool, true, false, if◌then◌else◌, List, [], ◌∷◌, ◌++◌, Option, Some, None, map, refl, sym, ap, subst, ◌∙◌, append_assoc}
use Rattle.std.proofs.lemmas.List.{append-nil, length-append}
use Rattle.std.specs.List.{flat_map, FoldsTo}
use Rattle.dep_types.specs.State.{State}
use Rattle.dep_types.specs.declared.config.Config.{Config}
use Rattle.dep_types.specs.Conditions.{Condition, HasCleanDisk, Leaves}
use Rattle.dep_types.specs.Writing.{next_count}
use Rattle.dep_types.specs.declared.inlet.LastRead.TheVariants.{Bytes}
use Rattle.dep_exchange.specs.Records.{World, Connect, Close, Record, stopped, first_world, Run, goes_on, Happens, connects, closes}
use Rattle.dep_hub.specs.Representing.{RepresentsAt, RepresentsAfter, IsClean, IsHonest, Transition, GoesOnAs, intake_of, store_of}
use Rattle.dep_hub.specs.declared.hub.Hub.{Hub}
use Rattle.dep_exchange.specs.declared.arrived.Arrived.{Arrived}
use Rattle.dep_exchange.specs.declared.arrived.Arrived.TheVariants.{Open as StaysOpen, Closed as HasClosed, Cut, NoSuch}
use Rattle.dep_exchange.proofs.Leaving.{Settles, leaves_wider}
use Rattle.dep_connection.proofs.ExchangeLemmas.{last_more, arrives_there, exchanges_run, exchanged_along, talks_exchange, talks_stop}
use Rattle.dep_connection.proofs.ShutTurns.{conversation_shut}
use Rattle.dep_connection.proofs.TurnLemmas.{goes_same, goes_then}
use Rattle.dep_connection.specs.Turns.{ServedPiece, pieces_of, replies_of, record_of, records_of, EndsAs, last_answer, HasGoneOut, IsPiece, ArePieces, most_reads, reads_made, reads_after, with_opened, with_closed, Exchanges, none_yet, one_more, LeftByExchanges, IsEndedBy}
use Rattle.dep_connection.specs.Conversation.{Outflow, WireState, Session, session, Transfers, GivesNothing, Clocks, Converses, IsAnswered, IsUnserved, ConversesOver, next_after, AddsRecords, StopsAll, Talk, OneTurn, OpenTurn, NoTurn, TurnsTo, TalksUntil, Talks, silent, turn, ahead}
use Rattle.dep_connection.specs.declared.connection.Served.{Served}
use Rattle.dep_connection.specs.declared.connection.Served.TheVariants.{Ended, Closed, Unserved, ReadFault, WriteFault, Bound}
use Rattle.std.specs.Io.KnownBytes.{Appends}
use Rattle.std.proofs.KnownBytes.{Keeps-refl, Appends-nil, Appends-trans, Consumes-nil, Consumes-trans, Consumes-kept}
use Rattle.std.proofs.lemmas.Grind.{flat_map-append}

sent_more : (f : ServedPiece → List ℕ) (turns : List ServedPiece) (t : ServedPiece) → flat_map f (turns ++ t ∷ []) ≡ flat_map f turns ++ f t
sent_more f turns t = flat_map-append f turns (t ∷ []) ∙ ap (λ l. flat_map f turns ++ l) (append-nil (f t))

folds_more : {C A : Type 0} (r : C → A → C → Type 0) (a : C) (xs : List A) (b c : C) (x : A) → FoldsTo r a xs b → r b x c → FoldsTo r a (xs ++ x ∷ []) c
folds_more r a [] b c x f s = (c, subst (λ d. r d x c) (sym f) s, refl)
folds_more r a (y ∷ xs) b c x f s = (f.0, f.1, folds_more r f.0 xs b c x f.2 s)

-- what each answer of the clock keeps, all of them keep
pub clocks_keep : {C : Type 0} (ticks : C → ℕ → C → Type 0) (P : C → Type 0) → ((a : C) (m : ℕ) (b : C) → ticks a m b → P a → P b)
    → (a : C) (turns : List ServedPiece) (b : C) → Clocks ticks a turns b → P a → P b
clocks_keep ticks P keeps a [] b f p = subst P f p
clocks_keep ticks P keeps a (t ∷ turns) b f p = clocks_keep ticks P keeps f.0 turns b f.2 (keeps a t.moment f.0 f.1 p)

all_more : (turns : List ServedPiece) (t : ServedPiece) → ArePieces turns → IsPiece t → ArePieces (turns ++ t ∷ [])
all_more [] t a p = (p, tt)
all_more (u ∷ turns) t a p = (a.0, all_more turns t a.1 p)

transfers_both : (a b c : WireState) (xs ys us vs : List ℕ) → Transfers a b xs us → Transfers b c ys vs → Transfers a c (xs ++ ys) (us ++ vs)
transfers_both a b c xs ys us vs t u = record {
  pieces = Consumes-trans a.unread b.unread c.unread xs ys t.pieces u.pieces;
  replies = Appends-trans a.out.taken b.out.taken c.out.taken us vs t.replies u.replies;
}

rests_transfers : (a b : WireState) → GivesNothing a b → Transfers a b [] []
rests_transfers a b r = record {
  pieces = Consumes-kept a.unread a.unread b.unread [] (Consumes-nil a.unread) r.pieces;
  replies = subst (λ (o : Outflow). Appends a.out.taken o.taken []) (sym r.out) (Appends-nil a.out.taken);
}

-- ---- what has gone out

pub gone_out : (turns : List ServedPiece) (count : ℕ) (has_failed : Bool) → length turns ≡ count → (count ≡ 0) ⊎ (has_failed ≡ false) → HasGoneOut turns has_failed
gone_out [] count has_failed counted going = tt
gone_out (t ∷ turns) count has_failed counted (inl none) = absurd (omega (arith, counted, none))
gone_out (t ∷ turns) count has_failed counted (inr going) = going

true_false : ◌≡◌ {A = Bool} true false → ⊥
true_false e = cc

kept_back : (turns : List ServedPiece) (count : ℕ) (has_failed : Bool) → length turns ≡ count + 1 → has_failed ≡ true → ¬ HasGoneOut turns has_failed
kept_back [] count has_failed counted failed out = absurd (omega (arith, counted))
kept_back (t ∷ turns) count has_failed counted failed out = true_false (sym failed ∙ out)

-- of turns with a last one
out_behind : (before : List ServedPiece) (t : ServedPiece) (has_failed : Bool) → HasGoneOut (before ++ t ∷ []) has_failed → has_failed ≡ false
out_behind [] t has_failed out = out
out_behind (u ∷ before) t has_failed out = out

out_where : (before : List ServedPiece) (t : ServedPiece) → HasGoneOut (before ++ t ∷ []) false
out_where [] t = refl
out_where (u ∷ before) t = refl

-- ---- the reads

-- one read more
pub reads_more : (reads k : ℕ) → reads_after reads (k + 1) ≡ next_count (reads_after reads k)
reads_more reads k = ap (λ m. reads_after reads m) (one_more_read k)
  where
    one_more_read : (m : ℕ) → m + 1 ≡ suc m
    one_more_read m = omega arith

one_read : (old mid new k made : ℕ) → made ≡ k + 1 → mid ≡ reads_after old k → new ≡ next_count mid → new ≡ reads_after old made
one_read old mid new k made e before after = after ∙ (ap next_count before ∙ (sym (reads_more old k) ∙ ap (λ m. reads_after old m) (sym e)))

none_at_most : (k : ℕ) → k ≡ 0 → k ≡ most_reads → ⊥
none_at_most k none most = omega (arith, none, most)

-- a count rises by no more than what is read
reads_least : (reads n : ℕ) → reads_after reads n ≤ reads + n
reads_least reads zero = omega arith
reads_least reads (suc n) = let before = reads_least reads n in omega (arith, before)

few_more : (old new n : ℕ) → new ≡ reads_after old n → n ≤ most_reads → new ≤ old + most_reads
few_more old new n e few = let least = reads_least old n in omega (arith, e, few, least)

few_made : (unread : Option (List ℕ)) (has_failed : Bool) (turns : List ServedPiece) (served : Served) → EndsAs unread has_failed turns served → reads_made turns served ≤ most_reads
few_made unread has_failed turns Ended ends = omega (arith, ends.3)
few_made unread has_failed turns ReadFault ends = omega (arith, ends.2)
few_made unread has_failed turns Closed ends = ends.2
few_made unread has_failed turns WriteFault ends = ends.1
few_made unread has_failed turns Bound ends = omega (arith, ends.2)
few_made unread has_failed turns Unserved ends = absurd ends

module _ {A : Type 0} (condition : A → Condition) (may_commit : A → Bool) (shown : Outflow → Type 0) where
  -- no turn yet
  pub talk_none : {C : Type 0} (ticks : C → ℕ → C → Type 0) (n : ℕ) (at : Session A C) → Talk condition may_commit shown ticks n at at 0 StaysOpen
  talk_none ticks n at = record {
    turns = [];
    counted = refl;
    sizes = tt;
    talks = silent;
    transfers = record { pieces = Consumes-nil at.wire.unread; replies = Appends-nil at.wire.out.taken };
    moments = refl;
    answered = refl;
    goes = goes_same condition at.hub;
  }

  -- one turn more
  pub talk_more : {C : Type 0} (ticks : C → ℕ → C → Type 0) (n : ℕ) (old mid new : Session A C) (answer : Arrived) (k : ℕ)
      → Talk condition may_commit shown ticks n old mid k StaysOpen → (k ≡ 0) ⊎ (mid.wire.out.has_failed ≡ false)
      → OneTurn condition may_commit shown ticks n mid new answer
      → Talk condition may_commit shown ticks n old new (k + 1) answer
  talk_more ticks n old mid new answer k t out o =
      let u : ServedPiece = record { piece = o.piece; moment = o.moment; sent = o.sent; answer = answer } in
      record {
        turns = t.turns ++ u ∷ [];
        counted = length-append t.turns (u ∷ []) ∙ ap (λ m. m + 1) t.counted;
        sizes = all_more t.turns u t.sizes (o.some, o.small);
        talks = turn u t.talks t.answered (gone_out t.turns k mid.wire.out.has_failed t.counted out) t.goes.config o.arrives o.transfers.replies o.flushed o.shows;
        transfers = subst (λ l. Transfers old.wire new.wire l (replies_of (t.turns ++ u ∷ []))) (sym (sent_more (λ (v : ServedPiece). v.piece) t.turns u))
            (subst (λ l. Transfers old.wire new.wire (pieces_of t.turns ++ o.piece) l) (sym (sent_more (λ (v : ServedPiece). v.sent) t.turns u))
            (transfers_both old.wire mid.wire new.wire (pieces_of t.turns) o.piece (replies_of t.turns) o.sent t.transfers o.transfers));
        moments = folds_more (λ before (v : ServedPiece) after. ticks before v.moment after) old.clock t.turns mid.clock new.clock u t.moments o.ticked;
        answered = last_more t.turns u;
        goes = goes_then condition t.goes o.goes;
      }

  -- one turn more that leaves the connection open, and then the store works ahead
  pub talk_open : {C : Type 0} (ticks : C → ℕ → C → Type 0) (n : ℕ) (old mid new : Session A C) (k : ℕ)
      → Talk condition may_commit shown ticks n old mid k StaysOpen → (k ≡ 0) ⊎ (mid.wire.out.has_failed ≡ false)
      → OpenTurn condition may_commit shown ticks n mid new
      → Talk condition may_commit shown ticks n old new (k + 1) StaysOpen
  talk_open ticks n old mid new k t out o =
      let u = talk_more ticks n old mid (session o.served new.wire new.clock) StaysOpen k t out o.turn in
      record {
        turns = u.turns;
        counted = u.counted;
        sizes = u.sizes;
        talks = ahead u.talks u.answered (gone_out u.turns (k + 1) new.wire.out.has_failed u.counted (inr o.gone_out)) o.ahead;
        transfers = u.transfers;
        moments = u.moments;
        answered = u.answered;
        goes = goes_then condition t.goes o.goes;
      }

  -- a turn of the same connection
  pub turn_at : {C : Type 0} (ticks : C → ℕ → C → Type 0) (n m : ℕ) (old new : Session A C) (served : Option Served) → n ≡ m
      → TurnsTo condition may_commit shown ticks n old new served → TurnsTo condition may_commit shown ticks m old new served
  turn_at ticks n m old new served same t = subst (λ (k : ℕ). TurnsTo condition may_commit shown ticks k old new served) same t

  -- nothing more was read
  pub talk_same : {C : Type 0} (ticks : C → ℕ → C → Type 0) (n : ℕ) (old mid new : Session A C) (k : ℕ)
      → Talk condition may_commit shown ticks n old mid k StaysOpen → NoTurn condition mid new → Talk condition may_commit shown ticks n old new k StaysOpen
  talk_same ticks n old mid new k t o = record {
    turns = t.turns;
    counted = t.counted;
    sizes = t.sizes;
    talks = subst (λ h. Talks condition may_commit shown n old.hub old.wire.out t.turns h new.wire.out) (sym o.same_hub)
        (subst (λ out. Talks condition may_commit shown n old.hub old.wire.out t.turns mid.hub out) (sym o.nothing.out) t.talks);
    transfers = subst (λ l. Transfers old.wire new.wire l (replies_of t.turns)) (append-nil (pieces_of t.turns))
        (subst (λ l. Transfers old.wire new.wire (pieces_of t.turns ++ []) l) (append-nil (replies_of t.turns))
        (transfers_both old.wire mid.wire new.wire (pieces_of t.turns) [] (replies_of t.turns) [] t.transfers (rests_transfers mid.wire new.wire o.nothing)));
    moments = subst (λ c. Clocks ticks old.clock t.turns c) (sym o.same_clock) t.moments;
    answered = t.answered;
    goes = subst (λ h. GoesOnAs condition old.hub h) (sym o.same_hub) t.goes;
  }

  -- nothing more was read, and so no more has failed
  out_still : {C : Type 0} (mid new : Session A C) (k : ℕ) → NoTurn condition mid new → (k ≡ 0) ⊎ (mid.wire.out.has_failed ≡ false) → (k ≡ 0) ⊎ (new.wire.out.has_failed ≡ false)
  out_still mid new k o (inl none) = inl none
  out_still mid new k o (inr going) = inr (ap (λ (out : Outflow). out.has_failed) o.nothing.out ∙ going)

  -- a turn that was the last
  pub talk_last : {C : Type 0} (ticks : C → ℕ → C → Type 0) (n : ℕ) (old mid new : Session A C) (served : Served) (k : ℕ)
      → k < most_reads → mid.wire.reads ≡ reads_after old.wire.reads k
      → Talk condition may_commit shown ticks n old mid k StaysOpen → (k ≡ 0) ⊎ (mid.wire.out.has_failed ≡ false)
      → TurnsTo condition may_commit shown ticks n mid new (Some served) → TalksUntil condition may_commit shown ticks n old new served
  talk_last ticks n old mid new Closed k b count t out o =
      let u = talk_more ticks n old mid new HasClosed k t out o.0 in
      record { count = k + 1; answer = HasClosed; talk = u; ends = (u.answered, gone_out u.turns (k + 1) new.wire.out.has_failed u.counted (inr o.1), (omega (arith, b, u.counted))); reads = one_read old.wire.reads mid.wire.reads new.wire.reads k (length u.turns) u.counted count o.0.reads; last = o.0.last }
  talk_last ticks n old mid new WriteFault k b count t out o =
      let u = talk_more ticks n old mid new o.answer k t out o.turn in
      let cut : (last_answer u.turns ≡ Cut) ⊎ (¬ HasGoneOut u.turns new.wire.out.has_failed) = elim o.cut [
        | inl is_cut ↦ inl (u.answered ∙ is_cut)
        | inr failed ↦ inr (kept_back u.turns k new.wire.out.has_failed u.counted failed)
      ] in
      record { count = k + 1; answer = o.answer; talk = u; ends = (cut, (omega (arith, b, u.counted))); reads = one_read old.wire.reads mid.wire.reads new.wire.reads k (length u.turns) u.counted count o.turn.reads; last = o.turn.last }
  talk_last ticks n old mid new Ended k b count t out o =
      let u = talk_same ticks n old mid new k t o.0 in
      record { count = k; answer = StaysOpen; talk = u; ends = (o.1, u.answered, gone_out u.turns k new.wire.out.has_failed u.counted (out_still mid new k o.0 out), (omega (arith, b, u.counted))); reads = one_read old.wire.reads mid.wire.reads new.wire.reads k (length u.turns + 1) (ap (λ m. m + 1) u.counted) count o.0.nothing.reads; last = o.2 }
  talk_last ticks n old mid new ReadFault k b count t out o =
      let u = talk_same ticks n old mid new k t o.0 in
      record { count = k; answer = StaysOpen; talk = u; ends = (u.answered, gone_out u.turns k new.wire.out.has_failed u.counted (out_still mid new k o.0 out), (omega (arith, b, u.counted))); reads = one_read old.wire.reads mid.wire.reads new.wire.reads k (length u.turns + 1) (ap (λ m. m + 1) u.counted) count o.0.nothing.reads; last = o.1 }
  talk_last ticks n old mid new Unserved k b count t out o = absurd o
  talk_last ticks n old mid new Bound k b count t out o = absurd o

  -- as many turns as there may be
  pub talk_bound : {C : Type 0} (ticks : C → ℕ → C → Type 0) (n : ℕ) (old new : Session A C) (k : ℕ)
      → k ≡ most_reads → new.wire.reads ≡ reads_after old.wire.reads k → (k ≡ 0) ⊎ (new.wire.last ≡ Bytes)
      → Talk condition may_commit shown ticks n old new k StaysOpen → (k ≡ 0) ⊎ (new.wire.out.has_failed ≡ false) → TalksUntil condition may_commit shown ticks n old new Bound
  talk_bound ticks n old new k e count last t out = record {
    count = k;
    answer = StaysOpen;
    talk = t;
    ends = (t.answered, gone_out t.turns k new.wire.out.has_failed t.counted out, t.counted ∙ e);
    reads = count ∙ ap (λ m. reads_after old.wire.reads m) (sym t.counted);
    last = elim last [ inl none ↦ absurd (none_at_most k none e) | inr bytes ↦ bytes ];
  }

  -- whoever was served took one number
  pub next_served : {C : Type 0} (ticks : C → ℕ → C → Type 0) (n : ℕ) (old new : Session A C) (end : Served)
      → TalksUntil condition may_commit shown ticks n old new end → (next : ℕ) → next_after next end ≡ next + 1
  next_served ticks n old new Ended t next = refl
  next_served ticks n old new Closed t next = refl
  next_served ticks n old new ReadFault t next = refl
  next_served ticks n old new WriteFault t next = refl
  next_served ticks n old new Bound t next = refl
  next_served ticks n old new Unserved t next = absurd t.ends

-- ---- the machine's side

-- a connection is opened, its turns are answered, and it is closed
pub conversation_run : (config : Config) (n : ℕ) (first : State) (records : List Record) (w v : World) (turns : List ServedPiece)
    → Run config first records w → Exchanges config n (with_opened n w) turns v
    → Run config first (records ++ records_of n turns) (with_closed n v)
conversation_run config n first records w v turns r x =
    let c : Record = record { event = Connect n; sent = [] } in
    let k : Record = record { event = Close n; sent = [] } in
    let m : List Record = map (record_of n) turns in
    subst (λ rs. Run config first rs (with_closed n v))
    (append_assoc (records ++ c ∷ []) m (k ∷ []) ∙ append_assoc records (c ∷ []) (m ++ k ∷ []))
    (goes_on (exchanges_run config n first (records ++ c ∷ []) (with_opened n w) v turns (goes_on r connects) x) closes)

-- a turn that did not leave the connection open is the last
OpenBefore : List ServedPiece → Type 0
OpenBefore [] = Unit {0}
OpenBefore (t ∷ []) = Unit {0}
OpenBefore (t ∷ u ∷ turns) = (t.answer ≡ StaysOpen) × OpenBefore (u ∷ turns)

open_more : (turns : List ServedPiece) (t : ServedPiece) → OpenBefore turns → last_answer turns ≡ StaysOpen → OpenBefore (turns ++ t ∷ [])
unfolding OpenBefore
open_more [] t o e = tt
open_more (u ∷ []) t o e = (e, tt)
open_more (u ∷ v ∷ turns) t o e = (o.0, open_more (v ∷ turns) t o.1 e)

open_before : (config : Config) (n : ℕ) (w v : World) (turns : List ServedPiece) → Exchanges config n w turns v → OpenBefore turns
unfolding OpenBefore
open_before config n w v turns none_yet = tt
open_before config n w v turns (one_more {turns = before} {w = mid} t x stays a) = open_more before t (open_before config n w mid before x) stays

open_behind : (before : List ServedPiece) (t : ServedPiece) (behind : List ServedPiece) → OpenBefore (before ++ t ∷ behind) → OpenBefore (t ∷ behind)
unfolding OpenBefore
open_behind [] t behind o = o
open_behind (u ∷ []) t behind o = o.1
open_behind (u ∷ v ∷ before) t behind o = open_behind (v ∷ before) t behind o.1

last_behind : (before : List ServedPiece) (t : ServedPiece) (behind : List ServedPiece) → last_answer (before ++ t ∷ behind) ≡ last_answer (t ∷ behind)
last_behind [] t behind = refl
last_behind (u ∷ []) t behind = refl
last_behind (u ∷ v ∷ before) t behind = last_behind (v ∷ before) t behind

-- no connection that is there is told of as one that isn't
never_lost : (config : Config) (n : ℕ) (w v : World) (turns : List ServedPiece) → Exchanges config n w turns v → last_answer turns ≡ NoSuch → ⊥
never_lost config n w v turns none_yet e = cc
never_lost config n w v turns (one_more {turns = before} t x stays a) e = arrives_there a (sym (last_more before t) ∙ e)

-- the outlet has given up behind the last turn
ended_failed : (a : Arrived) → (a ≡ NoSuch → ⊥) → IsEndedBy a true [] WriteFault
ended_failed StaysOpen there = λ failed last. refl
ended_failed HasClosed there = (refl, refl)
ended_failed Cut there = (refl, refl)
ended_failed NoSuch there = absurd (there refl)

ended_out : (before : List ServedPiece) (t : ServedPiece) (has_failed : Bool) (a : Arrived) → (a ≡ NoSuch → ⊥) → ¬ HasGoneOut (before ++ t ∷ []) has_failed → IsEndedBy a has_failed [] WriteFault
ended_out before t true a there out = ended_failed a there
ended_out before t false a there out = absurd (out (out_where before t))

still_open : (has_failed : Bool) (end : Served) → has_failed ≡ false → IsEndedBy StaysOpen has_failed [] end
still_open has_failed end going = λ failed last. absurd (true_false (sym failed ∙ going))

ended_by : (unread : Option (List ℕ)) (has_failed : Bool) (before : List ServedPiece) (t : ServedPiece) (a : Arrived) (end : Served)
    → last_answer (before ++ t ∷ []) ≡ a → (a ≡ NoSuch → ⊥) → EndsAs unread has_failed (before ++ t ∷ []) end → IsEndedBy a has_failed [] end
ended_by unread has_failed before t a Ended e there ends =
    subst (λ b. IsEndedBy b has_failed [] Ended) (sym ends.1 ∙ e) (still_open has_failed Ended (out_behind before t has_failed ends.2))
ended_by unread has_failed before t a Closed e there ends =
    subst (λ b. IsEndedBy b has_failed [] Closed) (sym ends.0 ∙ e)
    (refl, subst (λ f. Closed ≡ (if f then WriteFault else Closed)) (sym (out_behind before t has_failed ends.1)) refl)
ended_by unread has_failed before t a WriteFault e there ends = elim ends.0 [
  | inl is_cut ↦ subst (λ b. IsEndedBy b has_failed [] WriteFault) (sym is_cut ∙ e) (refl, refl)
  | inr out ↦ ended_out before t has_failed a there out
]
ended_by unread has_failed before t a ReadFault e there ends =
    subst (λ b. IsEndedBy b has_failed [] ReadFault) (sym ends.0 ∙ e) (still_open has_failed ReadFault (out_behind before t has_failed ends.1))
ended_by unread has_failed before t a Bound e there ends =
    subst (λ b. IsEndedBy b has_failed [] Bound) (sym ends.0 ∙ e) (still_open has_failed Bound (out_behind before t has_failed ends.1))
ended_by unread has_failed before t a Unserved e there ends = absurd ends

not_last : (u : ServedPiece) (behind : List ServedPiece) → u ∷ behind ≡ [] → ⊥
not_last u behind e = cc

ended_at : (unread : Option (List ℕ)) (has_failed : Bool) (before : List ServedPiece) (t : ServedPiece) (behind : List ServedPiece) (end : Served)
    → OpenBefore (t ∷ behind) → (last_answer (before ++ t ∷ behind) ≡ NoSuch → ⊥) → EndsAs unread has_failed (before ++ t ∷ behind) end → IsEndedBy t.answer has_failed behind end
unfolding OpenBefore
ended_at unread has_failed before t [] end o there ends =
    ended_by unread has_failed before t t.answer end (last_behind before t []) (λ e. there (last_behind before t [] ∙ e)) ends
ended_at unread has_failed before t (u ∷ behind) end o there ends =
    subst (λ b. IsEndedBy b has_failed (u ∷ behind) end) (sym o.0) (λ failed last. absurd (not_last u behind last))

pub last_reports : (config : Config) (n : ℕ) (w v : World) (before behind : List ServedPiece) (t : ServedPiece) (unread : Option (List ℕ)) (has_failed : Bool) (end : Served)
    → Exchanges config n w (before ++ t ∷ behind) v → EndsAs unread has_failed (before ++ t ∷ behind) end → IsEndedBy t.answer has_failed behind end
last_reports config n w v before behind t unread has_failed end x ends =
    ended_at unread has_failed before t behind end (open_behind before t behind (open_before config n w v (before ++ t ∷ behind) x))
    (never_lost config n w v (before ++ t ∷ behind) x) ends

-- ---- from hubs to the machine

opened_is : {config : Config} {w : World} {n : ℕ} {v : World} {sent : List ℕ} → Happens config w (Connect n) sent v → v ≡ with_opened n w
opened_is connects = refl

closed_is : {config : Config} {w : World} {n : ℕ} {v : World} {sent : List ℕ} → Happens config w (Close n) sent v → v ≡ with_closed n w
closed_is closes = refl

module _ {A : Type 0} (condition : A → Condition) where
  module _ (may_commit : A → Bool) (shown : Outflow → Type 0) (n : ℕ) (old opened talked new : Hub A) (out out_after : Outflow) (turns : List ServedPiece)
      (opens : Transition condition old opened (Connect n) []) (closes : Transition condition talked new (Close n) []) (settles : Settles (store_of condition opened))
      (same_opened : opened.config ≡ old.config) (same_new : new.config ≡ old.config) (same_store : new.store ≡ talked.store) (talks : Talks condition may_commit shown n opened out turns talked out_after) where
    to_talked : (P : Condition → Type 0) → P (store_of condition new) → P (store_of condition talked)
    to_talked P h = subst (λ (x : A). P (condition x)) same_store h

    from_talked : (P : Condition → Type 0) → P (store_of condition talked) → P (store_of condition new)
    from_talked P h = subst (λ (x : A). P (condition x)) (sym same_store) h

    answered : IsHonest condition new → (w : World) → RepresentsAt condition old w → IsAnswered condition old new n turns w
    answered honest w at =
        let o = opens w at in
        let t = talks_exchange condition may_commit shown n opened talked out out_after turns settles talks (to_talked HasCleanDisk honest) (with_opened n w) (subst (λ v. RepresentsAt condition opened v) (opened_is o.1) o.2) in
        record {
          talked = t.talked;
          exchanges = subst (λ (x : Config). Exchanges x n (with_opened n w) turns t.talked) same_opened t.exchanges;
          at = λ clean.
              let c = closes t.talked (t.at (to_talked (λ d. IsTrue d.is_open) clean)) in
              subst (λ v. RepresentsAt condition new v) (closed_is c.1) c.2;
          rests = λ clean. from_talked (λ d. Leaves d (λ found. found ≡ t.talked.state)) (t.rests (to_talked (λ d. IsTrue d.is_open) clean));
          stop = from_talked (λ d. Leaves d (LeftByExchanges (subst (λ (x : Config). Exchanges x n (with_opened n w) turns t.talked) same_opened t.exchanges)))
              (leaves_wider (store_of condition talked) _ _ (λ c l. exchanged_along opened.config old.config same_opened t.exchanges c l) t.stop);
        }

    all_added : (IsClean condition new → IsHonest condition new) → AddsRecords condition old new (records_of n turns)
    all_added law clean first records h =
        let a = answered (law clean) h.world h.at in
        record {
          world = with_closed n a.talked;
          run = subst (λ (x : Config). Run x first (records ++ records_of n turns) (with_closed n a.talked)) (sym same_new)
              (conversation_run old.config n first records h.world a.talked turns h.run a.exchanges);
          at = a.at clean;
        }

    all_stops : StopsAll condition old new (record { event = Connect n; sent = [] } ∷ map (record_of n) turns)
    all_stops honest first records h =
        let c : Record = record { event = Connect n; sent = [] } in
        let o = opens h.world h.at in
        let from : Run opened.config first (records ++ c ∷ []) o.0 = subst (λ (x : Config). Run x first (records ++ c ∷ []) o.0) (sym same_opened) (goes_on h.run o.1) in
        subst (λ (x : A). Leaves (condition x) (λ found. Run old.config first ((records ++ c ∷ map (record_of n) turns) ++ stopped ∷ []) (first_world found))) (sym same_store)
        (leaves_wider (store_of condition talked) _ _
        (λ found r. subst (λ rs. Run old.config first (rs ++ stopped ∷ []) (first_world found)) (append_assoc records (c ∷ []) (map (record_of n) turns))
        (subst (λ (x : Config). Run x first (((records ++ c ∷ []) ++ map (record_of n) turns) ++ stopped ∷ []) (first_world found)) same_opened r))
        (talks_stop condition may_commit shown n opened talked out out_after turns settles talks (to_talked HasCleanDisk honest) first (records ++ c ∷ []) o.0 from o.2))

  module _ (may_commit : A → Bool) (shown : Outflow → Type 0) {C : Type 0} (ticks : C → ℕ → C → Type 0) (n : ℕ) (old : Session A C) (opened talked new : Hub A) (wire : WireState) (now : C)
      (is_next : n ≡ old.hub.next) (fresh : intake_of old.hub.connections.items n ≡ None)
      (opens : Transition condition old.hub opened (Connect n) []) (closes : Transition condition talked new (Close n) []) (settles : Settles (store_of condition opened)) (law : IsClean condition new → IsHonest condition new)
      (same_opened : opened.config ≡ old.hub.config) (same_new : new.config ≡ old.hub.config) (same_store : new.store ≡ talked.store) (same_first : opened.store ≡ old.hub.store)
      (gone : intake_of new.connections.items n ≡ None) where
    converses : (end : Served) → TalksUntil condition may_commit shown ticks n (session opened old.wire old.clock) (session talked wire now) end
        → Converses condition may_commit shown ticks old (session new wire now) end
    converses end u =
        let t = u.talk in
        record {
          number = n;
          turns = t.turns;
          is_next = is_next;
          fresh = fresh;
          opened = opened;
          opens = opens;
          talked = talked;
          talks = t.talks;
          closes = closes;
          gone = gone;
          answers = answered may_commit shown n old.hub opened talked new old.wire.out wire.out t.turns opens closes settles same_opened same_new same_store t.talks;
          adds = all_added may_commit shown n old.hub opened talked new old.wire.out wire.out t.turns opens closes settles same_opened same_new same_store t.talks law;
          stops = all_stops may_commit shown n old.hub opened talked new old.wire.out wire.out t.turns opens closes settles same_opened same_new same_store t.talks;
          transfers = t.transfers;
          moments = t.moments;
          ends = u.ends;
          sizes = t.sizes;
          reads = u.reads;
          few_reads = few_more old.wire.reads wire.reads (reads_made t.turns end) u.reads (few_made wire.unread wire.out.has_failed t.turns end u.ends);
          last = u.last;
          shut = conversation_shut condition may_commit shown n old.hub opened talked new old.wire.out wire.out t.turns same_first same_store t.talks;
        }

    pub serves_whole : (served : Served) → TalksUntil condition may_commit shown ticks n (session opened old.wire old.clock) (session talked wire now) served
        → ConversesOver condition may_commit shown ticks old (session new wire now) served
    serves_whole Closed t = converses Closed t
    serves_whole WriteFault t = converses WriteFault t
    serves_whole Ended t = converses Ended t
    serves_whole ReadFault t = converses ReadFault t
    serves_whole Bound t = converses Bound t
    serves_whole Unserved t = absurd t.ends

  -- not opened
  pub unserved : {C : Type 0} (clock : C) (old new : Hub A) (wire : WireState) → ((w : World) → RepresentsAt condition old w → RepresentsAt condition new w) → new.store ≡ old.store
      → ((w : World) → RepresentsAt condition old w → Leaves (store_of condition new) (λ found. found ≡ w.state))
      → ((first : State) (records : List Record) → RepresentsAfter condition old first records → RepresentsAfter condition new first records)
      → IsUnserved condition (session old wire clock) (session new wire clock)
  unserved clock old new wire at store stays same = record {
    same = at;
    same_store = store;
    stays = stays;
    adds = λ clean first records h. subst (λ rs. RepresentsAfter condition new first rs) (sym (append-nil records)) (same first records h);
    rests = record { pieces = Keeps-refl wire.unread; reads = refl; last = refl; out = refl };
    same_clock = refl;
  }

  -- ---- over an outlet of which less is said

  module _ (may_commit : A → Bool) (shown wider : Outflow → Type 0) (shows : (out : Outflow) → shown out → wider out) where
    talks_wider : {n : ℕ} {old new : Hub A} {first last : Outflow} {turns : List ServedPiece} → Talks condition may_commit shown n old first turns new last → Talks condition may_commit wider n old first turns new last
    talks_wider silent = silent
    talks_wider (turn {after = after} t talks stays out same a sends flushed its) = turn t (talks_wider talks) stays out same a sends flushed (shows after its)
    talks_wider (ahead talks stays out a) = ahead (talks_wider talks) stays out a

    converses_as : {C : Type 0} (ticks : C → ℕ → C → Type 0) (before after : Session A C) (end : Served) → Converses condition may_commit shown ticks before after end → Converses condition may_commit wider ticks before after end
    converses_as ticks before after end v = record {
      number = v.number;
      turns = v.turns;
      is_next = v.is_next;
      fresh = v.fresh;
      opened = v.opened;
      opens = v.opens;
      talked = v.talked;
      talks = talks_wider v.talks;
      closes = v.closes;
      gone = v.gone;
      answers = v.answers;
      adds = v.adds;
      stops = v.stops;
      transfers = v.transfers;
      moments = v.moments;
      ends = v.ends;
      sizes = v.sizes;
      reads = v.reads;
      few_reads = v.few_reads;
      last = v.last;
      shut = v.shut;
    }

    pub converses_wider : {C : Type 0} (ticks : C → ℕ → C → Type 0) (before after : Session A C) (end : Served)
        → ConversesOver condition may_commit shown ticks before after end → ConversesOver condition may_commit wider ticks before after end
    converses_wider ticks before after Unserved v = v
    converses_wider ticks before after Ended v = converses_as ticks before after Ended v
    converses_wider ticks before after Closed v = converses_as ticks before after Closed v
    converses_wider ticks before after ReadFault v = converses_as ticks before after ReadFault v
    converses_wider ticks before after WriteFault v = converses_as ticks before after WriteFault v
    converses_wider ticks before after Bound v = converses_as ticks before after Bound v
