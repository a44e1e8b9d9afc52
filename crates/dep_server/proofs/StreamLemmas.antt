-- Runs without failed steps make of each stream the items that it spells.
use Rattle.std.proofs.Common.{◌≡◌, ◌==◌, ℕ, Bool, true, false, List, [], ◌∷◌, ◌++◌, Option, Some, None, if◌then◌else◌, inl, refl, sym, ap, subst, ◌∙◌, append_assoc, arith}
use Rattle.std.proofs.lemmas.List.{append-nil}
use Rattle.std.proofs.lemmas.List.Sums.{fold-append}
use Rattle.std.proofs.lemmas.List.Concat.{flat_map-append}
use Rattle.std.proofs.lemmas.Bool.{eqb-true, eq-eqb}
use Rattle.std.specs.Option.{option_map, option_map_or}
use Rattle.dep_types.specs.State.{State}
use Rattle.dep_types.specs.declared.config.Config.{Config}
use Rattle.dep_head.specs.Head.{head_end}
use Rattle.dep_message.specs.Places.{Place, Open, Shut}
use Rattle.dep_message.specs.Stream.{Item, Spells, ReadsItems, Waits}
use Rattle.dep_message.proofs.OneReading.{one_spelling}
use Rattle.dep_message.proofs.Reading.{reads_more}
use Rattle.dep_exchange.specs.Machine.{Serves}
use Rattle.dep_exchange.specs.Records.{ServerEvent, Record, stopped, Line, Absent, Live, ShutLine, World, line_after, ReadsBeyond, Run, Happens, Arrives}
use Rattle.dep_server.specs.Calm.{SteppedItem, steps_of, CalmServes, all_served, CalmArrives, live, shut_line, Calm, connect, close, arrive, none, CalmRun, AnyCalmRun, BeginAlike, nothing, more as one_more, stop}
use Rattle.dep_server.specs.Streams.{StreamsOfNumber, all_streams, with_event, streams_over, streams_of, items_of, AreSpelled, no_stream, first_stream, SchedulePoint, schedule_points_of, HaveSameStreams, HaveSameItems}
use Rattle.dep_exchange.specs.declared.arrived.Arrived.{Arrived}

-- ---- one list of items for one list of streams

pub one_list : (limit : ℕ) (streams : List (List ℕ)) (xs ys : List Item) → AreSpelled limit streams xs → AreSpelled limit streams ys → xs ≡ ys
one_list limit streams xs ys no_stream no_stream = refl
one_list limit streams xs ys (first_stream {stream = stream} {streams = rest} {items = a} {later = b} {left = p} s t) (first_stream {items = c} {later = d} {left = q} u v) =
    ap (λ l. l ++ b) (one_spelling limit stream a c p q s u).0 ∙ ap (λ l. c ++ l) (one_list limit rest b d t v)

-- one stream more, behind the others
spelled_more : (limit : ℕ) (streams : List (List ℕ)) (items : List Item) (stream : List ℕ) (now : List Item) (left : Place)
    → AreSpelled limit streams items → Spells limit stream now left → AreSpelled limit (streams ++ stream ∷ []) (items ++ now)
spelled_more limit streams items stream now left no_stream s = subst (λ l. AreSpelled limit (stream ∷ []) l) (append-nil now) (first_stream s no_stream)
spelled_more limit streams items stream now left (first_stream {stream = x} {streams = rest} {items = a} {later = b} t u) s =
    subst (λ l. AreSpelled limit (x ∷ rest ++ stream ∷ []) l) (sym (append_assoc a b now))
    (first_stream t (spelled_more limit rest b stream now left u s))

-- ---- what a run has made of the streams of a number

-- the open stream spells the last of the items, and leaves this place
record Spelled (limit : ℕ) (stream : List ℕ) (left : Place) (s : StreamsOfNumber) (items : List Item) : Type 0 where
  pub earlier : List Item
  pub now : List Item
  pub is_open : s.current ≡ Some stream
  pub joined : items ≡ earlier ++ now
  pub closed : AreSpelled limit s.closed earlier
  pub spells : Spells limit stream now left

Accounts : ℕ → Line → StreamsOfNumber → List Item → Type 0
Accounts limit Absent s items = (s.current ≡ None) × AreSpelled limit s.closed items
Accounts limit (Live stream) s items = (left : Place) × Spelled limit stream left s items
Accounts limit ShutLine s items = (stream : List ℕ) × Spelled limit stream Shut s items

nothing_open : (o : Option (List ℕ)) → o ≡ None → option_map_or (λ (stream : List ℕ). stream ∷ []) o [] ≡ []
nothing_open o e = ap (λ (x : Option (List ℕ)). option_map_or (λ (stream : List ℕ). stream ∷ []) x []) e

spelled_all : (limit : ℕ) (stream : List ℕ) (left : Place) (s : StreamsOfNumber) (items : List Item) → Spelled limit stream left s items → AreSpelled limit (all_streams s) items
spelled_all limit stream left s items h =
    subst (λ l. AreSpelled limit (all_streams s) l) (sym h.joined)
    (subst (λ (o : Option (List ℕ)). AreSpelled limit (s.closed ++ option_map_or (λ (x : List ℕ). x ∷ []) o []) (h.earlier ++ h.now)) (sym h.is_open)
    (spelled_more limit s.closed h.earlier stream h.now left h.closed h.spells))

-- all streams are spelled, whatever the line
accounts_all : (limit : ℕ) (line : Line) (s : StreamsOfNumber) (items : List Item) → Accounts limit line s items → AreSpelled limit (all_streams s) items
unfolding Accounts
accounts_all limit Absent s items a =
    subst (λ l. AreSpelled limit l items) (sym (ap (λ l. s.closed ++ l) (nothing_open s.current a.0) ∙ append-nil s.closed)) a.1
accounts_all limit (Live stream) s items a = spelled_all limit stream a.0 s items a.1
accounts_all limit ShutLine s items a = spelled_all limit a.0 Shut s items a.1

-- a fresh connection
opened_accounts : (limit : ℕ) (s : StreamsOfNumber) (items : List Item) → AreSpelled limit (all_streams s) items
    → Accounts limit (Live []) (record { closed = all_streams s; current = Some [] }) items
unfolding Accounts head_end
opened_accounts limit s items a = (
  Open false [],
  record {
    earlier = items;
    now = [];
    is_open = refl;
    joined = sym (append-nil items);
    closed = a;
    spells = record { reads = refl; waits = inl (refl, omega arith) };
  },
)

-- one that is closed
closed_accounts : (limit : ℕ) (s : StreamsOfNumber) (items : List Item) → AreSpelled limit (all_streams s) items
    → Accounts limit Absent (record { closed = all_streams s; current = None }) items
unfolding Accounts
closed_accounts limit s items a = (refl, a)

-- a piece goes on with the streams
abbrev pub with_piece : List ℕ → StreamsOfNumber → StreamsOfNumber
with_piece piece s = record s { current = option_map (λ (stream : List ℕ). stream ++ piece) s.current }

-- the items that the piece completes
served_accounts : (config : Config) (stream piece : List ℕ) (left at : Place) (s : StreamsOfNumber) (earlier items : List Item)
    → Spelled config.max_upload stream left s earlier → ReadsBeyond config.max_upload stream piece items at → Waits config.max_upload at
    → Spelled config.max_upload (stream ++ piece) at (with_piece piece s) (earlier ++ items)
served_accounts config stream piece left at s earlier items h r w =
    let same = one_spelling config.max_upload stream r.0 h.now r.1 left r.2 h.spells in
    record {
      earlier = h.earlier;
      now = h.now ++ items;
      is_open = ap (option_map (λ (x : List ℕ). x ++ piece)) h.is_open;
      joined = ap (λ l. l ++ items) h.joined ∙ append_assoc h.earlier h.now items;
      closed = h.closed;
      spells = record { reads = subst (λ l. ReadsItems config.max_upload (Open false (stream ++ piece)) (l ++ items) at) same.0 r.3; waits = w };
    }

line_accounts : (limit : ℕ) (stream : List ℕ) (at : Place) (s : StreamsOfNumber) (items : List Item) → Spelled limit stream at s items → Accounts limit (line_after stream at) s items
unfolding Accounts
line_accounts limit stream (Open continued rest) s items h = (Open continued rest, h)
line_accounts limit stream Shut s items h = (stream, h)

-- nothing is read behind an end
ended_accounts : (limit : ℕ) (stream piece : List ℕ) (s : StreamsOfNumber) (items : List Item) → Spelled limit stream Shut s items
    → Spelled limit (stream ++ piece) Shut (with_piece piece s) items
ended_accounts limit stream piece s items h = record {
  earlier = h.earlier;
  now = h.now;
  is_open = ap (option_map (λ (x : List ℕ). x ++ piece)) h.is_open;
  joined = h.joined;
  closed = h.closed;
  spells = record { reads = reads_more limit h.now (Open false stream) Shut piece h.spells.reads; waits = tt };
}

-- ---- steps by their numbers

own_if : (b : Bool) (item : Item) (items : List Item) → b ≡ true → (if b then item ∷ [] else []) ++ items ≡ item ∷ items
own_if true item items e = refl
own_if false item items e = cc

others_if : (b : Bool) (item : Item) (items : List Item) → b ≡ false → (if b then item ∷ [] else []) ++ items ≡ items
others_if true item items e = cc
others_if false item items e = refl

own_items : (n moment : ℕ) (items : List Item) → items_of n (steps_of n moment items) ≡ items
own_items n moment [] = refl
own_items n moment (i ∷ items) = own_if (n == n) i (items_of n (steps_of n moment items)) (eq-eqb n n refl) ∙ ap (λ l. i ∷ l) (own_items n moment items)

other_items : (n m moment : ℕ) (items : List Item) → (n == m) ≡ false → items_of n (steps_of m moment items) ≡ []
other_items n m moment [] e = refl
other_items n m moment (i ∷ items) e = others_if (n == m) i (items_of n (steps_of m moment items)) e ∙ other_items n m moment items e

serves_none : {config : Config} {reads : List Item → Place → Type 0} {s left : State} {moment : ℕ} {sent : List ℕ} {at : Place} {answer : Arrived} {v : Serves config reads s moment sent left at answer} {steps : List SteppedItem} (n number : ℕ)
    → CalmServes number _ _ _ _ v steps → (n == number) ≡ false → items_of n steps ≡ []
serves_none {moment = moment} n number (all_served items r w) e = other_items n number moment items e

arrives_none : {config : Config} {piece : List ℕ} {moment : ℕ} {line after : Line} {s left : State} {sent : List ℕ} {answer : Arrived} {a : Arrives config piece moment line s sent left after answer} {steps : List SteppedItem} (n number : ℕ)
    → CalmArrives number _ _ _ _ _ _ a steps → (n == number) ≡ false → items_of n steps ≡ []
arrives_none n number (live v c) e = serves_none n number c e
arrives_none n number shut_line e = refl

-- ---- one arrival

serves_accounts : {config : Config} (stream piece : List ℕ) {s left : State} {moment : ℕ} {sent : List ℕ} {at : Place} {answer : Arrived}
    {v : Serves config (ReadsBeyond config.max_upload stream piece) s moment sent left at answer} {steps : List SteppedItem}
    (number : ℕ) (was : Place) (streams : StreamsOfNumber) (items : List Item)
    → CalmServes number _ _ _ _ v steps → Spelled config.max_upload stream was streams items
    → Accounts config.max_upload (line_after (stream ++ piece) at) (with_piece piece streams) (items ++ items_of number steps)
serves_accounts {config} stream piece {moment = moment} number was streams items (all_served new {at} r w) h =
    line_accounts config.max_upload (stream ++ piece) at (with_piece piece streams) (items ++ items_of number (steps_of number moment new))
    (subst (λ l. Spelled config.max_upload (stream ++ piece) at (with_piece piece streams) (items ++ l)) (sym (own_items number moment new))
    (served_accounts config stream piece was at streams items new h r w))

arrives_accounts : {config : Config} {piece : List ℕ} {moment : ℕ} {line after : Line} {s left : State} {sent : List ℕ} {answer : Arrived} {a : Arrives config piece moment line s sent left after answer} {steps : List SteppedItem}
    (number : ℕ) (streams : StreamsOfNumber) (items : List Item)
    → CalmArrives number _ _ _ _ _ _ a steps → Accounts config.max_upload line streams items
    → Accounts config.max_upload after (with_piece piece streams) (items ++ items_of number steps)
unfolding Accounts
arrives_accounts {piece = piece} number streams items (live {stream = stream} v c) h = serves_accounts stream piece number h.0 streams items c h.1
arrives_accounts {config} {piece} number streams items shut_line h =
    subst (λ l. Accounts config.max_upload ShutLine (with_piece piece streams) l) (sym (append-nil items))
    (h.0 ++ piece, ended_accounts config.max_upload h.0 piece streams items h.1)

-- ---- one event

accounts_if : (limit : ℕ) (b : Bool) (line line' : Line) (s s' : StreamsOfNumber) (items : List Item) → Accounts limit line' s' items → Accounts limit line s items
    → Accounts limit (if b then line' else line) (if b then s' else s) items
accounts_if limit true line line' s s' items h k = h
accounts_if limit false line line' s s' items h k = k

arrive_if : (limit : ℕ) (b : Bool) (line after : Line) (s : StreamsOfNumber) (piece : List ℕ) (items next : List Item)
    → (b ≡ true → Accounts limit after (with_piece piece s) (items ++ next)) → (b ≡ false → next ≡ []) → Accounts limit line s items
    → Accounts limit (if b then after else line) (if b then with_piece piece s else s) (items ++ next)
arrive_if limit true line after s piece items next h e k = h refl
arrive_if limit false line after s piece items next h e k = subst (λ l. Accounts limit line s l) (sym (ap (λ l. items ++ l) (e refl) ∙ append-nil items)) k

-- a piece for a connection that is not there
unknown_accounts : (limit : ℕ) (line : Line) (s : StreamsOfNumber) (piece : List ℕ) (items : List Item) → line ≡ Absent → Accounts limit line s items → Accounts limit line (with_piece piece s) items
unfolding Accounts
unknown_accounts limit Absent s piece items e h = (ap (option_map (λ (x : List ℕ). x ++ piece)) h.0, h.1)
unknown_accounts limit (Live stream) s piece items e h = cc
unknown_accounts limit ShutLine s piece items e h = cc

unknown_if : (limit : ℕ) (b : Bool) (line : Line) (s : StreamsOfNumber) (piece : List ℕ) (items : List Item) → (b ≡ true → line ≡ Absent) → Accounts limit line s items
    → Accounts limit line (if b then with_piece piece s else s) items
unknown_if limit true line s piece items e h = unknown_accounts limit line s piece items (e refl) h
unknown_if limit false line s piece items e h = h

happens_accounts : {config : Config} {w w' : World} {event : ServerEvent} {sent : List ℕ} {h : Happens config w event sent w'} {steps : List SteppedItem}
    (n : ℕ) (streams : StreamsOfNumber) (items : List Item) → Calm _ _ _ h steps → Accounts config.max_upload (w.line n) streams items
    → Accounts config.max_upload (w'.line n) (with_event n streams event) (items ++ items_of n steps)
happens_accounts {config} {w} n streams items (connect {n = m}) a =
    let limit = config.max_upload in
    let s' : StreamsOfNumber = record { closed = all_streams streams; current = Some [] } in
    subst (λ l. Accounts limit (if n == m then Live [] else w.line n) (if n == m then s' else streams) l) (sym (append-nil items))
    (accounts_if limit (n == m) (w.line n) (Live []) streams s' items (opened_accounts limit streams items (accounts_all limit (w.line n) streams items a)) a)
happens_accounts {config} {w} n streams items (close {n = m}) a =
    let limit = config.max_upload in
    let s' : StreamsOfNumber = record { closed = all_streams streams; current = None } in
    subst (λ l. Accounts limit (if n == m then Absent else w.line n) (if n == m then s' else streams) l) (sym (append-nil items))
    (accounts_if limit (n == m) (w.line n) Absent streams s' items (closed_accounts limit streams items (accounts_all limit (w.line n) streams items a)) a)
happens_accounts {config} {w} n streams items (arrive {n = m} {piece = piece} {line = line} {steps = steps} x c) a =
    arrive_if config.max_upload (n == m) (w.line n) line streams piece items (items_of n steps)
    (λ e. subst (λ k. Accounts config.max_upload line (with_piece piece streams) (items ++ items_of k steps)) (sym (eqb-true n m e))
    (arrives_accounts m streams items c (subst (λ k. Accounts config.max_upload (w.line k) streams items) (eqb-true n m e) a)))
    (λ e. arrives_none n m c e) a
happens_accounts {config} {w} n streams items (none {n = m} {piece = piece} e) a =
    subst (λ l. Accounts config.max_upload (w.line n) (if n == m then with_piece piece streams else streams) l) (sym (append-nil items))
    (unknown_if config.max_upload (n == m) (w.line n) streams piece items (λ f. ap w.line (eqb-true n m f) ∙ e) a)

-- ---- a whole run

run_accounts : {config : Config} {first : State} {records : List Record} {w : World} {r : Run config first records w} {steps : List SteppedItem}
    (n : ℕ) → CalmRun _ _ r steps → Accounts config.max_upload (w.line n) (streams_over n records) (items_of n steps)
unfolding Accounts
run_accounts n nothing = (refl, no_stream)
run_accounts {config} n (one_more {records} {event} {sent} {w} {w'} {steps} {next} r h c k) =
    subst (λ l. Accounts config.max_upload (w'.line n) (streams_over n (records ++ record { event = event; sent = sent } ∷ [])) l)
    (sym (flat_map-append (λ (t : SteppedItem). if n == t.number then t.item ∷ [] else []) steps next))
    (subst (λ s. Accounts config.max_upload (w'.line n) s (items_of n steps ++ items_of n next))
    (sym (fold-append (λ (s : StreamsOfNumber) (r : Record). with_event n s r.event) (record { closed = []; current = None }) records (record { event = event; sent = sent } ∷ [])))
    (happens_accounts n (streams_over n records) (items_of n steps) k (run_accounts n c)))
run_accounts {config} n (stop {records} {w} {steps} r c) =
    subst (λ s. Accounts config.max_upload Absent s (items_of n steps))
    (sym (fold-append (λ (s : StreamsOfNumber) (r : Record). with_event n s r.event) (record { closed = []; current = None }) records (stopped ∷ [])))
    (closed_accounts config.max_upload (streams_over n records) (items_of n steps)
    (accounts_all config.max_upload (w.line n) (streams_over n records) (items_of n steps) (run_accounts n c)))

pub run_spelled : {config : Config} {first : State} {records : List Record} {w : World} {r : Run config first records w} {steps : List SteppedItem}
    → CalmRun _ _ r steps → (n : ℕ) → AreSpelled config.max_upload (streams_of n records) (items_of n steps)
run_spelled {config} {records = records} {w = w} {steps = steps} c n =
    accounts_all config.max_upload (w.line n) (streams_over n records) (items_of n steps) (run_accounts n c)

-- the same streams, the same items
pub same_items : (a b : AnyCalmRun) → BeginAlike a b → HaveSameStreams a b → HaveSameItems a b
same_items a b begin streams n =
    let limit = b.run.config.max_upload in
    one_list limit (streams_of n b.run.records) (items_of n a.steps) (items_of n b.steps)
    (subst (λ s. AreSpelled limit s (items_of n a.steps)) (streams n)
    (subst (λ (c : Config). AreSpelled c.max_upload (streams_of n a.run.records) (items_of n a.steps)) begin.config (run_spelled a.calm n))) (run_spelled b.calm n)

-- ---- steps on the same schedule points

items_eq : (n : ℕ) (t u : SteppedItem) (ts us : List SteppedItem) → n ≡ t.number → t.number ≡ u.number → items_of n (t ∷ ts) ≡ items_of n (u ∷ us)
    → (t.item ≡ u.item) × (items_of n ts ≡ items_of n us)
items_eq n t u ts us e f h =
    let own = own_if (n == t.number) t.item (items_of n ts) (eq-eqb n t.number e) in
    let its = own_if (n == u.number) u.item (items_of n us) (eq-eqb n u.number (e ∙ f)) in
    let both : t.item ∷ items_of n ts ≡ u.item ∷ items_of n us = sym own ∙ (h ∙ its) in
    ((cc), (cc))

tail_if : (b : Bool) (x y : Item) (xs ys : List Item) → (if b then x ∷ [] else []) ++ xs ≡ (if b then y ∷ [] else []) ++ ys → xs ≡ ys
tail_if true x y xs ys e = cc
tail_if false x y xs ys e = e

items_rest : (n : ℕ) (t u : SteppedItem) (ts us : List SteppedItem) → t.number ≡ u.number → items_of n (t ∷ ts) ≡ items_of n (u ∷ us) → items_of n ts ≡ items_of n us
items_rest n t u ts us f h =
    tail_if (n == t.number) t.item u.item (items_of n ts) (items_of n us)
    (h ∙ ap (λ k. (if n == k then u.item ∷ [] else []) ++ items_of n us) (sym f))

-- the same items on the same schedule points are the same steps
pub same_steps : (ts us : List SteppedItem) → ((n : ℕ) → items_of n ts ≡ items_of n us) → schedule_points_of ts ≡ schedule_points_of us → ts ≡ us
same_steps [] [] f e = refl
same_steps [] (u ∷ us) f e = cc
same_steps (t ∷ ts) [] f e = cc
same_steps (t ∷ ts) (u ∷ us) f e =
    let a : SchedulePoint = record { number = t.number; moment = t.moment } in
    let b : SchedulePoint = record { number = u.number; moment = u.moment } in
    let parts : (a ≡ b) × (schedule_points_of ts ≡ schedule_points_of us) = ((cc), (cc)) in
    let number : t.number ≡ u.number = ap (λ (o : SchedulePoint). o.number) parts.0 in
    let moment : t.moment ≡ u.moment = ap (λ (o : SchedulePoint). o.moment) parts.0 in
    let item = (items_eq t.number t u ts us refl number (f t.number)).0 in
    let rest = same_steps ts us (λ n. items_rest n t u ts us number (f n)) parts.1 in
    (λ i. record { number = number i; item = item i; moment = moment i } ∷ rest i)
