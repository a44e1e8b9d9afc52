use Rattle.std.proofs.Common.{◌≡◌, ◌==◌, ℕ, Bool, true, false, List, [], ◌∷◌, ◌++◌, refl, sym, ap, ◌∙◌, append_assoc}
use Rattle.std.proofs.lemmas.List.{append-nil}
use Rattle.dep_types.specs.State.{State}
use Rattle.dep_types.specs.declared.config.Config.{Config}
use Rattle.dep_message.specs.Places.{Place}
use Rattle.dep_message.specs.Stream.{Item}
use Rattle.dep_answers.specs.Steps.{sent_by}
use Rattle.dep_exchange.specs.Machine.{step, replies, state_after, Serves}
use Rattle.dep_exchange.specs.Records.{ServerEvent, Record, stopped, Line, World, Run, Happens, Arrives}
use Rattle.dep_server.specs.Calm.{SteppedItem, steps_of, CalmServes, all_served, CalmArrives, live, shut_line, Calm, connect, close, arrive, none, CalmRun, AnyCalmRun, BeginAlike, nothing, more, stop, is_event_of, sent_to, bytes_if, RunsEndAlike}
use Rattle.dep_exchange.specs.declared.arrived.Arrived.{Arrived}

-- the state that the steps leave
pub state_by : Config → State → List SteppedItem → State
state_by config s [] = s
state_by config s (t ∷ steps) = state_by config (step config s t.item t.moment).state steps

state_by_items : (config : Config) (s : State) (n moment : ℕ) (items : List Item) → state_by config s (steps_of n moment items) ≡ state_after config s items moment
unfolding state_by
state_by_items config s n moment [] = refl
state_by_items config s n moment (i ∷ items) = state_by_items config (step config s i moment).state n moment items

state_by_both : (config : Config) (s : State) (a b : List SteppedItem) → state_by config s (a ++ b) ≡ state_by config (state_by config s a) b
unfolding state_by
state_by_both config s [] b = refl
state_by_both config s (t ∷ a) b = state_by_both config (step config s t.item t.moment).state a b

-- what the steps send to one connection
pub to_by : ℕ → Config → State → List SteppedItem → List ℕ
to_by n config s [] = []
to_by n config s (t ∷ steps) = (bytes_if (t.number == n) (sent_by (step config s t.item t.moment))) ++ to_by n config (step config s t.item t.moment).state steps

to_by_both : (n : ℕ) (config : Config) (s : State) (a b : List SteppedItem) → to_by n config s (a ++ b) ≡ to_by n config s a ++ to_by n config (state_by config s a) b
unfolding to_by state_by
to_by_both n config s [] b = refl
to_by_both n config s (t ∷ a) b =
    ap (λ l. (bytes_if (t.number == n) (sent_by (step config s t.item t.moment))) ++ l) (to_by_both n config (step config s t.item t.moment).state a b)
    ∙ sym (append_assoc (bytes_if (t.number == n) (sent_by (step config s t.item t.moment))) (to_by n config (step config s t.item t.moment).state a) (to_by n config (state_by config (step config s t.item t.moment).state a) b))

if_both : (b : Bool) (x y : List ℕ) → bytes_if b x ++ bytes_if b y ≡ bytes_if b (x ++ y)
if_both true x y = refl
if_both false x y = refl

if_nil : (b : Bool) → [] ≡ bytes_if b []
if_nil true = refl
if_nil false = refl

to_by_items : (n m : ℕ) (config : Config) (s : State) (moment : ℕ) (items : List Item) → to_by n config s (steps_of m moment items) ≡ (bytes_if (m == n) (replies config s items moment))
unfolding to_by state_by
to_by_items n m config s moment [] = if_nil (m == n)
to_by_items n m config s moment (i ∷ items) =
    ap (λ l. (bytes_if (m == n) (sent_by (step config s i moment))) ++ l) (to_by_items n m config (step config s i moment).state moment items)
    ∙ if_both (m == n) (sent_by (step config s i moment)) (replies config (step config s i moment).state items moment)

to_more : (n : ℕ) (records : List Record) (r : Record) → sent_to n (records ++ r ∷ []) ≡ sent_to n records ++ (bytes_if (is_event_of n r.event) r.sent)
to_more n [] r = append-nil (bytes_if (is_event_of n r.event) r.sent)
to_more n (x ∷ records) r = ap (λ l. (bytes_if (is_event_of n x.event) x.sent) ++ l) (to_more n records r)
    ∙ sym (append_assoc (bytes_if (is_event_of n x.event) x.sent) (sent_to n records) (bytes_if (is_event_of n r.event) r.sent))

serves_by : {config : Config} {reads : List Item → Place → Type 0} {s left : State} {moment : ℕ} {sent : List ℕ} {at : Place} {answer : Arrived} {v : Serves config reads s moment sent left at answer} {steps : List SteppedItem} (number : ℕ)
    → CalmServes number _ _ _ _ v steps → ((n : ℕ) → (bytes_if (number == n) sent) ≡ to_by n config s steps) × (left ≡ state_by config s steps)
unfolding to_by state_by
serves_by {config = config} {s = s} {moment = moment} number (all_served items r w) = (λ n. sym (to_by_items n number config s moment items), sym (state_by_items config s number moment items))

arrives_by : {config : Config} {piece : List ℕ} {moment : ℕ} {line after : Line} {s left : State} {sent : List ℕ} {answer : Arrived} {a : Arrives config piece moment line s sent left after answer} {steps : List SteppedItem} (number : ℕ)
    → CalmArrives number _ _ _ _ _ _ a steps → ((n : ℕ) → (bytes_if (number == n) sent) ≡ to_by n config s steps) × (left ≡ state_by config s steps)
unfolding to_by state_by
arrives_by number (live v c) = serves_by number c
arrives_by number shut_line = (λ n. sym (if_nil (number == n)), refl)

happens_by : {config : Config} {w w' : World} {event : ServerEvent} {sent : List ℕ} {h : Happens config w event sent w'} {steps : List SteppedItem}
    → Calm _ _ _ h steps → ((n : ℕ) → (bytes_if (is_event_of n event) sent) ≡ to_by n config w.state steps) × (w'.state ≡ state_by config w.state steps)
unfolding to_by state_by
happens_by (connect {n = m}) = (λ n. sym (if_nil (m == n)), refl)
happens_by (close {n = m}) = (λ n. sym (if_nil (m == n)), refl)
happens_by (arrive {n = m} a c) = arrives_by m c
happens_by (none {n = m} e) = (λ n. sym (if_nil (m == n)), refl)

pub run_by : {config : Config} {first : State} {records : List Record} {w : World} {r : Run config first records w} {steps : List SteppedItem}
    → CalmRun _ _ r steps → ((n : ℕ) → sent_to n records ≡ to_by n config first steps) × (w.state ≡ state_by config first steps)
unfolding to_by state_by
run_by nothing = (λ n. refl, refl)
run_by {config = config} {first = first} (more {records} {event} {sent} {w} {w'} {steps} {next} r h c k) =
    let a = run_by c in
    let b = happens_by k in (
      λ n. to_more n records (record { event = event; sent = sent })
          ∙ (ap (λ l. l ++ (bytes_if (is_event_of n event) sent)) (a.0 n)
          ∙ (ap (λ l. to_by n config first steps ++ l) (b.0 n ∙ ap (λ s. to_by n config s next) a.1)
          ∙ sym (to_by_both n config first steps next))),
      b.1 ∙ (ap (λ s. state_by config s next) a.1 ∙ sym (state_by_both config first steps next)),
    )
run_by (stop {records} r c) =
    let a = run_by c in (λ n. to_more n records stopped ∙ (append-nil (sent_to n records) ∙ a.0 n), a.1)

-- two that make the same steps
pub alike : (a b : AnyCalmRun) → BeginAlike a b → a.steps ≡ b.steps → RunsEndAlike a b
alike a b begin same =
    let x = run_by a.calm in
    let y = run_by b.calm in
    record {
      sent = λ n. x.0 n ∙ ((λ i. to_by n (begin.config i) (begin.first i) (same i)) ∙ sym (y.0 n));
      state = x.1 ∙ ((λ i. state_by (begin.config i) (begin.first i) (same i)) ∙ sym y.1);
    }
