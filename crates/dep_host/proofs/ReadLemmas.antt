-- What was read of a connection arrives in its order.
use Rattle.std.proofs.Common.{◌≡◌, inl, inr, ◌==◌, ℕ, Bool, if◌then◌else◌, List, [], ◌∷◌, ◌++◌, refl, sym, ap, ◌∙◌, append_assoc}
use Rattle.std.proofs.lemmas.List.{append-nil}
use Rattle.std.proofs.lemmas.Bool.{cases_eq, eq-eqb, ne_eqb}
use Rattle.dep_exchange.specs.Records.{Record, Connect, Arrive, Close}
use Rattle.dep_hub.specs.Holding.{with_held}
use Rattle.dep_host.specs.Actions.{HostAction, sent_by_action, replies_to, Opens, Takes, Replies, Sends, Declines, Closes}
use Rattle.dep_host.specs.Runs.{Follows, begins, opens, takes, replies, sends, declines, closes, read_by, read_of, arrived_by, arrived_of, IsClosedByNone, sent_for, sent_of}
use Rattle.std.proofs.lemmas.Grind.{flat_map-append}

pub read_append : (n : ℕ) (xs ys : List HostAction) → read_of n (xs ++ ys) ≡ read_of n xs ++ read_of n ys
read_append n xs ys = flat_map-append (λ d. read_by n d) xs ys

arrived_append : (n : ℕ) (xs ys : List Record) → arrived_of n (xs ++ ys) ≡ arrived_of n xs ++ arrived_of n ys
arrived_append n [] ys = refl
arrived_append n (r ∷ xs) ys = ap (λ l. arrived_by n r.event ++ l) (arrived_append n xs ys) ∙ sym (append_assoc (arrived_by n r.event) (arrived_of n xs) (arrived_of n ys))

pub open_before : (n : ℕ) (xs ys : List HostAction) → IsClosedByNone n (xs ++ ys) → IsClosedByNone n xs
open_before n [] ys h = tt
open_before n (d ∷ xs) ys h = (h.0, open_before n xs ys h.1)

pub open_last : (n : ℕ) (xs ys : List HostAction) → IsClosedByNone n (xs ++ ys) → IsClosedByNone n ys
open_last n [] ys h = h
open_last n (d ∷ xs) ys h = open_last n xs ys h.1

here : (n m : ℕ) (xs ys : List ℕ) → n ≡ m → (if n == m then xs else ys) ≡ xs
here n m xs ys e = ap (λ (b : Bool). if b then xs else ys) (eq-eqb n m e)

elsewhere : (n m : ℕ) (xs ys : List ℕ) → (n ≡ m → ⊥) → (if n == m then xs else ys) ≡ ys
elsewhere n m xs ys ne = ap (λ (b : Bool). if b then xs else ys) (ne_eqb n m ne)

-- more is read, and held
read_more : (f r a h piece r' h' : List ℕ) → f ++ r ≡ a ++ h → r' ≡ r ++ piece → h' ≡ h ++ piece → f ++ r' ≡ a ++ h'
read_more f r a h piece r' h' e er eh = ap (λ l. f ++ l) er ∙ sym (append_assoc f r piece) ∙ ap (λ l. l ++ piece) e ∙ append_assoc a h piece ∙ ap (λ l. a ++ l) (sym eh)

-- a part of what is held arrives
arrive_more : (f r a h part rest a' h' : List ℕ) → f ++ r ≡ a ++ h → h ≡ part ++ rest → a' ≡ a ++ part → h' ≡ rest → f ++ r ≡ a' ++ h'
arrive_more f r a h part rest a' h' e cut ea eh = e ∙ ap (λ l. a ++ l) cut ∙ sym (append_assoc a part rest) ∙ ap (λ l. l ++ rest) (sym ea) ∙ ap (λ l. a' ++ l) (sym eh)

-- nothing of it changes
stays : (f r a h r' a' h' : List ℕ) → f ++ r ≡ a ++ h → r' ≡ r → a' ≡ a → h' ≡ h → f ++ r' ≡ a' ++ h'
stays f r a h r' a' h' e er ea eh = ap (λ l. f ++ l) er ∙ e ∙ ap (λ l. l ++ h) (sym ea) ∙ ap (λ l. a' ++ l) (sym eh)

-- one action more, of which this was read
read_one : (n : ℕ) (actions : List HostAction) (d : HostAction) (bytes : List ℕ) → read_by n d ≡ bytes → read_of n (actions ++ d ∷ []) ≡ read_of n actions ++ bytes
read_one n actions d bytes e = read_append n actions (d ∷ []) ∙ ap (λ l. read_of n actions ++ l) (append-nil (read_by n d) ∙ e)

arrived_one : (n : ℕ) (records : List Record) (r : Record) (bytes : List ℕ) → arrived_by n r.event ≡ bytes → arrived_of n (records ++ r ∷ []) ≡ arrived_of n records ++ bytes
arrived_one n records r bytes e = arrived_append n records (r ∷ []) ∙ ap (λ l. arrived_of n records ++ l) (append-nil (arrived_by n r.event) ∙ e)

read_none : (n : ℕ) (actions : List HostAction) (d : HostAction) → read_by n d ≡ [] → read_of n (actions ++ d ∷ []) ≡ read_of n actions
read_none n actions d e = read_one n actions d [] e ∙ append-nil (read_of n actions)

arrived_none : (n : ℕ) (records : List Record) (r : Record) → arrived_by n r.event ≡ [] → arrived_of n (records ++ r ∷ []) ≡ arrived_of n records
arrived_none n records r e = arrived_one n records r [] e ∙ append-nil (arrived_of n records)

pub reads_arrive : {first : ℕ → List ℕ} {actions : List HostAction} {records : List Record} {held : ℕ → List ℕ} (n : ℕ) → Follows first actions records held → IsClosedByNone n actions
    → first n ++ read_of n actions ≡ arrived_of n records ++ held n
reads_arrive {first = first} n begins h = append-nil (first n)
reads_arrive {first = first} n (opens {actions = actions} {records = records} {held = held} at m given f) h =
    stays (first n) (read_of n actions) (arrived_of n records) (held n) _ _ (held n) (reads_arrive n f (open_before n actions (Opens at m given ∷ []) h))
    (read_none n actions (Opens at m given) refl) (arrived_none n records (record { event = Connect m; sent = [] }) refl) refl
reads_arrive {first = first} n (takes {actions = actions} {records = records} {held = held} at m piece f) h =
    let before = reads_arrive n f (open_before n actions (Takes at m piece ∷ []) h) in
    elim (cases_eq n m) [
      | inl e ↦ read_more (first n) (read_of n actions) (arrived_of n records) (held n) piece _ (with_held m (held m ++ piece) held n) before
          (read_one n actions (Takes at m piece) piece (here n m piece [] e)) (here n m (held m ++ piece) (held n) e ∙ ap (λ (k : ℕ). held k ++ piece) (sym e))
      | inr ne ↦ stays (first n) (read_of n actions) (arrived_of n records) (held n) _ (arrived_of n records) (with_held m (held m ++ piece) held n) before
          (read_none n actions (Takes at m piece) (elsewhere n m piece [] ne)) refl (elsewhere n m (held m ++ piece) (held n) ne)
    ]
reads_arrive {first = first} n (replies {actions = actions} {records = records} {held = held} at m moment part rest sent reply f cut) h =
    let d : HostAction = Replies at m moment sent reply in
    let r : Record = record { event = Arrive m part moment; sent = reply } in
    let before = reads_arrive n f (open_before n actions (d ∷ []) h) in
    let same : read_of n (actions ++ d ∷ []) ≡ read_of n actions = read_none n actions d refl in
    elim (cases_eq n m) [
      | inl e ↦ ap (λ l. first n ++ l) same ∙ arrive_more (first n) (read_of n actions) (arrived_of n records) (held n) part rest _ (with_held m rest held n) before
          (ap held e ∙ cut) (arrived_one n records r part (here n m part [] e)) (here n m rest (held n) e)
      | inr ne ↦ stays (first n) (read_of n actions) (arrived_of n records) (held n) _ _ (with_held m rest held n) before
          same (arrived_none n records r (elsewhere n m part [] ne)) (elsewhere n m rest (held n) ne)
    ]
reads_arrive {first = first} n (sends {actions = actions} {records = records} {held = held} at m sent answer f) h =
    ap (λ l. first n ++ l) (read_none n actions (Sends at m sent answer) refl) ∙ reads_arrive n f (open_before n actions (Sends at m sent answer ∷ []) h)
reads_arrive {first = first} n (declines {actions = actions} {records = records} {held = held} at m moment piece part rest sent f cut) h =
    let d : HostAction = Declines at m piece moment sent in
    let r : Record = record { event = Arrive m part moment; sent = sent } in
    let before = reads_arrive n f (open_before n actions (d ∷ []) h) in
    elim (cases_eq n m) [
      | inl e ↦ arrive_more (first n) _ (arrived_of n records) (held n ++ piece) part rest _ (with_held m rest held n)
          (read_more (first n) (read_of n actions) (arrived_of n records) (held n) piece _ (held n ++ piece) before (read_one n actions d piece (here n m piece [] e)) refl)
          (ap (λ (k : ℕ). held k ++ piece) e ∙ cut) (arrived_one n records r part (here n m part [] e)) (here n m rest (held n) e)
      | inr ne ↦ stays (first n) (read_of n actions) (arrived_of n records) (held n) _ _ (with_held m rest held n) before
          (read_none n actions d (elsewhere n m piece [] ne)) (arrived_none n records r (elsewhere n m part [] ne)) (elsewhere n m rest (held n) ne)
    ]
reads_arrive {first = first} n (closes {actions = actions} {records = records} {held = held} at m second reason f) h =
    stays (first n) (read_of n actions) (arrived_of n records) (held n) _ _ (with_held m [] held n) (reads_arrive n f (open_before n actions (Closes at m second reason ∷ []) h))
    (read_none n actions (Closes at m second reason) refl) (arrived_none n records (record { event = Close m; sent = [] }) refl) (elsewhere n m [] (held n) (open_last n actions (Closes at m second reason ∷ []) h).0)

pub replies_one : (n : ℕ) (actions : List HostAction) (d : HostAction) → replies_to n (actions ++ d ∷ []) ≡ replies_to n actions ++ sent_by_action n d
replies_one n actions d = flat_map-append (λ e. sent_by_action n e) actions (d ∷ []) ∙ ap (λ l. replies_to n actions ++ l) (append-nil (sent_by_action n d))

pub sent_one : (n : ℕ) (records : List Record) (r : Record) → sent_of n (records ++ r ∷ []) ≡ sent_of n records ++ sent_for n r.event r.sent
sent_one n records r = flat_map-append (λ (e : Record). sent_for n e.event e.sent) records (r ∷ []) ∙ ap (λ l. sent_of n records ++ l) (append-nil (sent_for n r.event r.sent))
