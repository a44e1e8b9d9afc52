-- What a host sent and still owes is what a run says.
use Rattle.std.proofs.Common.{◌≡◌, ◌⊎◌, inl, inr, ◌≤◌, ◌+◌, ◌==◌, ℕ, suc, length, Bool, true, false, if◌then◌else◌, List, [], ◌∷◌, ◌++◌, Option, None, Some, refl, sym, ap, subst, ◌∙◌, append_assoc, IsTrue, arith}
use Rattle.std.proofs.lemmas.List.{append-nil, append_cancel_left, length-append}
use Rattle.std.proofs.lemmas.Bool.{cases_eq, eq-eqb, ne_eqb}
use Rattle.std.specs.Io.KnownBytes.{Appends, append_known}
use Rattle.dep_types.specs.State.{State}
use Rattle.dep_types.specs.declared.config.Config.{Config}
use Rattle.dep_types.specs.Conditions.{Condition, Represents, HasCleanDisk}
use Rattle.dep_exchange.specs.Machine.{serves_all, step_fails, gives_up}
use Rattle.dep_exchange.specs.Records.{Record, Connect, Arrive, Close, Line, Live, Absent, Arrives, at_live, at_shut_line, Run, goes_on as runs_on, connects, closes as closes_line, arrives, with_line}
use Rattle.dep_hub.specs.Representing.{IsClean, IsHonest}
use Rattle.dep_hub.specs.Holding.{KeepsHolding, RepresentsHoldingAfter, PartArrives, IsNext, items_answered, with_held}
use Rattle.dep_exchange.specs.Owing.{with_more}
use Rattle.dep_hub.specs.Owed.{IsOwed, bytes_later}
use Rattle.dep_hub.specs.RepresentsOwing.{KeepsBack, unsent, prepares_still, begins_to_prepare, waits_still, begins_to_wait, lacks_memory, RepresentsOwingAfter, NextIsFree, OthersStay, Owes, IsPaid, behind_at, is_part, is_unsent}
use Rattle.dep_hub.specs.WorkingAhead.{RestsAhead}
use Rattle.dep_hub.proofs.PreparingLemmas.{ahead_owes}
use Rattle.dep_exchange.specs.declared.arrived.Arrived.{Arrived}
use Rattle.dep_hub.specs.declared.hub.Hub.{Hub}
use Rattle.dep_exchange.specs.declared.next.Next.{Next}
use Rattle.dep_exchange.specs.declared.next.Next.TheVariants.{More, Waiting, Closed, Cut, NoSuch}
use Rattle.dep_hub.specs.declared.rest.Behind.{Behind}
use Rattle.dep_hub.specs.declared.sent_on.SentOn.{SentOn}
use Rattle.dep_hub.specs.declared.sent_on.SentOn.TheVariants.{Part, All, Broken as BrokenOff}
use Rattle.dep_hub.specs.declared.rest.Behind.TheVariants.{Nothing, Content, Broken, Waits, Prepares, Prepared}
use Rattle.dep_outbox.specs.Wires.{reported}
use Rattle.dep_slot.specs.declared.connection_state.Phase.{Phase}
use Rattle.dep_slot.specs.declared.connection_state.Phase.TheVariants.{Open, Over}
use Rattle.dep_slot.specs.ConnectionStates.{is_sending}
use Rattle.dep_slot.specs.Slots.{SameBehind}
use Rattle.dep_host.specs.Actions.{Position, slot_at, AreShown, HostAction, sent_by_action, replies_to, Opens, Takes, Replies, Sends, Declines, Closes}
use Rattle.dep_host.specs.Hosting.{HubStandsStill, HostStep, refused, asks, comes, rests, offers, delays, sends, refuses, answers, leaves, Steps, begins, goes_on}
use Rattle.dep_host.specs.Runs.{Follows, begins as follows_none, opens, takes, replies, sends as follows_sent, declines, closes, IsClosedByNone, reply_count, parts_of, sent_for, sent_of, KeepsPromise, OwesNone}
use Rattle.dep_host.proofs.CloseLemmas.{clean_before}
use Rattle.dep_host.proofs.HostLemmas.{steps_join}
use Rattle.dep_host.proofs.ReadLemmas.{open_before, open_last, replies_one, sent_one, reads_arrive}
use Rattle.dep_host.proofs.ReportLemmas.{AllReport, reports_of, wires_take, slots_stay}
use Rattle.dep_host.proofs.GivenLemmas.{reads_given}
use Rattle.dep_host.proofs.RunLemmas.{kept_back_still}
use Rattle.dep_host.proofs.SendLemmas.{Agrees, AllAgree, steps_agree}

-- nothing is owed where nothing is unsent
paid_off : (s : State) (b : Behind) (owed : List ℕ) → is_unsent b ≡ false → IsOwed s b owed → owed ≡ []
paid_off s Nothing owed u h = h
paid_off s (Waits claim) owed u h = h
paid_off s (Prepares left) owed u h = h
paid_off s Prepared owed u h = h
paid_off s Broken owed u h = absurd (let bad : true ≡ false = u in cc)
paid_off s (Content r) owed u h = absurd (let bad : true ≡ false = u in cc)

-- nor of who is read
read_unsent : (b : Behind) (p : Phase) → p ≡ Open → Agrees b p → is_unsent b ≡ false
read_unsent Nothing p is_open h = refl
read_unsent (Waits claim) p is_open h = refl
read_unsent (Prepares left) p is_open h = refl
read_unsent Prepared p is_open h = refl
read_unsent Broken p is_open h = absurd (h.unbroken is_open refl)
read_unsent (Content r) p is_open h = absurd (elim h.content [
  | inl content ↦ let bad : false ≡ true = sym (ap is_sending is_open) ∙ content in cc
  | inr over ↦ let bad : Over ≡ Open = sym over ∙ is_open in cc
])

at_most_one : (next : Next) (items : ℕ) (rest sent : List ℕ) → IsNext next items rest sent → items ≤ 1
at_most_one More items rest sent h = omega (arith, h)
at_most_one Waiting items rest sent h = let none = h.0 in omega (arith, none)
at_most_one Closed items rest sent h = h.0
at_most_one Cut items rest sent h = h.0
at_most_one NoSuch items rest sent h = absurd h

-- where no item is answered the state stays
stays_unanswered : {config : Config} {piece : List ℕ} {moment : ℕ} {line after : Line} {s left : State} {sent : List ℕ} {answer : Arrived}
    → (a : Arrives config piece moment line s sent left after answer) → items_answered a ≡ 0 → left ≡ s
stays_unanswered (at_live (serves_all [] reads at_rest)) none = refl
stays_unanswered (at_live (serves_all (item ∷ items) reads at_rest)) none = absurd (let no : ⊥ = omega (arith, none) in no)
stays_unanswered (at_live (gives_up [] at reads some up_to)) none = refl
stays_unanswered (at_live (gives_up (item ∷ items) at reads some up_to)) none = absurd (let no : ⊥ = omega (arith, none) in no)
stays_unanswered (at_live (step_fails items item at reads fails)) none = absurd (let no : ⊥ = omega (arith, none) in no)
stays_unanswered at_shut_line none = refl

-- what is sent at once and later is the reply
joins_reply : (t k more : Option (List ℕ)) (now reply : List ℕ) → Appends t k now → Appends t (with_more k more) reply → AreShown t → AreShown k → now ++ bytes_later more ≡ reply
joins_reply None k more now reply a b t u = absurd t
joins_reply (Some x) None more now reply a b t u = absurd u
joins_reply (Some x) (Some y) None now reply a b t u = append-nil now ∙ append_cancel_left x now reply (sym a ∙ b)
joins_reply (Some x) (Some y) (Some m) now reply a b t u =
    append_cancel_left x (now ++ m) reply (sym (append_assoc x now m) ∙ (ap (λ (l : List ℕ). l ++ m) (sym a) ∙ b))

-- who is there and who isn't
here : (n m : ℕ) (xs ys : List ℕ) → n ≡ m → (if n == m then xs else ys) ≡ xs
here n m xs ys e = ap (λ (b : Bool). if b then xs else ys) (eq-eqb n m e)

elsewhere : (n m : ℕ) (xs ys : List ℕ) → (n ≡ m → ⊥) → (if n == m then xs else ys) ≡ ys
elsewhere n m xs ys ne = ap (λ (b : Bool). if b then xs else ys) (ne_eqb n m ne)

-- what was sent and is owed, of a action and a record more
joins_more : (r o s now more reply : List ℕ) → r ++ o ≡ s → o ≡ [] → now ++ more ≡ reply → (r ++ now) ++ more ≡ s ++ reply
joins_more r o s now more reply joined none whole = append_assoc r now more ∙ (ap (λ (l : List ℕ). r ++ l) whole ∙ ap (λ (l : List ℕ). l ++ reply) (sym (append-nil r) ∙ (ap (λ (l : List ℕ). r ++ l) (sym none) ∙ joined)))

joins_less : (r o s sent rest : List ℕ) → r ++ o ≡ s → o ≡ sent ++ rest → (r ++ sent) ++ rest ≡ s
joins_less r o s sent rest joined cut = append_assoc r sent rest ∙ (ap (λ (l : List ℕ). r ++ l) (sym cut) ∙ joined)

joins_same : (r o s r' o' s' : List ℕ) → r ++ o ≡ s → r' ≡ r → o' ≡ o → s' ≡ s → r' ++ o' ≡ s'
joins_same r o s r' o' s' joined er eo es = ap (λ (l : List ℕ). l ++ o') er ∙ (ap (λ (l : List ℕ). r ++ l) eo ∙ (joined ∙ sym es))

known_joined : (t : Option (List ℕ)) (r o s : List ℕ) → t ≡ Some r → r ++ o ≡ s → append_known t o ≡ Some s
known_joined t r o s is joined = ap (λ (k : Option (List ℕ)). append_known k o) is ∙ ap Some joined

pub replies_join : (n : ℕ) (xs ys : List HostAction) → reply_count n (xs ++ ys) ≡ reply_count n xs + reply_count n ys
replies_join n [] ys = let none : reply_count n [] ≡ 0 = refl in omega (arith, none)
replies_join n (d ∷ xs) ys = let e = replies_join n xs ys in omega (arith, e)

as_many : (n : ℕ) → 0 + n ≤ n
as_many n = omega arith

pub parts_join : (n : ℕ) (xs ys : List HostAction) → parts_of n (xs ++ ys) ≡ parts_of n xs + parts_of n ys
parts_join n [] ys = let none : parts_of n [] ≡ 0 = refl in omega (arith, none)
parts_join n (d ∷ xs) ys = let e = parts_join n xs ys in omega (arith, e)

-- a part takes some of what is owed
paid_part : (answer : SentOn) (sent rest owed : List ℕ) → owed ≡ sent ++ rest → IsPaid answer sent rest → (if is_part answer then 1 else 0) + length rest ≤ length owed
paid_part Part [] rest owed cut some = absurd (some refl)
paid_part Part (x ∷ sent) rest owed cut some =
    let long = ap (λ (l : List ℕ). length l) cut ∙ length-append (x ∷ sent) rest in
    let l : length (x ∷ sent) ≡ suc (length sent) = refl in
    omega (arith, long, l)
paid_part All sent rest owed cut some =
    let long = ap (λ (l : List ℕ). length l) cut ∙ length-append sent rest in
    omega (arith, long)
paid_part BrokenOff sent rest owed cut some =
    let long = ap (λ (l : List ℕ). length l) cut ∙ length-append sent rest in
    omega (arith, long)

-- what is owed to a connection that is closed
owed_closed : (s : State) (is_closed : Bool) (b : Behind) (owed : List ℕ) → IsOwed s b owed → IsOwed s (if is_closed then Nothing else b) (if is_closed then [] else owed)
owed_closed s true b owed h = refl
owed_closed s false b owed h = h

-- and to one whose request was kept back
kept_here : {A : Type 0} {condition : A → Condition} {t k : Option (List ℕ)} {f g : ℕ} (s : State) (n : ℕ) (owed : List ℕ) (old new : Hub A) → KeepsBack condition t k f g old new n
    → IsOwed s (behind_at old.connections.items n) owed → IsOwed s (behind_at new.connections.items n) owed
kept_here s n owed old new k h = elim k.why [
  | unsent u same ↦ subst (λ (b : Behind). IsOwed s b owed) (sym same) h
  | prepares_still u same ↦ subst (λ (b : Behind). IsOwed s b owed) (sym same) h
  | begins_to_prepare was names now ↦ subst (λ (b : Behind). IsOwed s b owed) (sym now) (subst (λ (b : Behind). IsOwed s b owed) was h)
  | waits_still claim was now held ↦ subst (λ (b : Behind). IsOwed s b owed) (sym now) (subst (λ (b : Behind). IsOwed s b owed) was h)
  | begins_to_wait claim u has now held ↦ subst (λ (b : Behind). IsOwed s b owed) (sym now) (paid_off s (behind_at old.connections.items n) owed u.0 h)
  | lacks_memory u pending has now ↦ subst (λ (b : Behind). IsOwed s b owed) (sym now) (paid_off s (behind_at old.connections.items n) owed u.0 h)
]

-- or a request was prepared
asked_owed : {A : Type 0} (condition : A → Condition) (s : State) (n : ℕ) (owed : List ℕ) (old new : Hub A) → SameBehind old new ⊎ RestsAhead condition old new
    → IsOwed s (behind_at old.connections.items n) owed → IsOwed s (behind_at new.connections.items n) owed
asked_owed condition s n owed old new (inl same) h = subst (λ (b : Behind). IsOwed s b owed) (sym (same n)) h
asked_owed condition s n owed old new (inr w) h = ahead_owes condition old new w n s owed h

kept_owed : {A : Type 0} {condition : A → Condition} {t k : Option (List ℕ)} {f g : ℕ} (s : State) (n number : ℕ) (owes : ℕ → List ℕ) (old new : Hub A) → KeepsBack condition t k f g old new number
    → IsOwed s (behind_at old.connections.items n) (owes n) → IsOwed s (behind_at new.connections.items n) (owes n)
kept_owed s n number owes old new k h = elim (cases_eq n number) [
  | inl e ↦ subst (λ (m : ℕ). IsOwed s (behind_at new.connections.items m) (owes m)) (sym e) (kept_here s number (owes number) old new k (subst (λ (m : ℕ). IsOwed s (behind_at old.connections.items m) (owes m)) e h))
  | inr ne ↦ subst (λ (b : Behind). IsOwed s b (owes n)) (sym (k.others n ne)) h
]

module _ {A R K S : Type 0} (condition : A → Condition) (unread : R → Option (List ℕ)) (taken : K → Option (List ℕ)) (held : S → Option (List ℕ))
    (honest : (a : A) → IsTrue (condition a).is_open → HasCleanDisk (condition a))
    (replied : (old new : Hub A) (n : ℕ) (moment : ℕ) (sent : List ℕ) (failures failures_after : ℕ) (answer : Arrived) (first : State) (records : List Record) (holds owes : ℕ → List ℕ) (more : List ℕ)
    (h : RepresentsOwingAfter condition old first records holds owes)
    (a : PartArrives condition old.config new n (holds n) moment sent failures failures_after answer h.world holds)
    → new.config ≡ old.config → items_answered a.arrives ≤ 1 → NextIsFree old n → OthersStay old new n → Owes condition new n more → IsHonest condition new → IsClean condition new
    → RepresentsOwingAfter condition new first (records ++ record { event = Arrive n a.part moment; sent = sent } ∷ []) (with_held n a.rest holds) (with_held n more owes)) where
  -- behind these actions the hub represents their records, and owes what was not sent of their replies
  record OwesBehind (q : Position A R K S) (first : State) (before : List Record) (actions : List HostAction) : Type 0 where
    more : List Record
    holds : ℕ → List ℕ
    owes : ℕ → List ℕ
    follows : Follows (λ n. []) actions more holds
    represents : RepresentsOwingAfter condition q.hub first (before ++ more) holds owes
    joins : AllReport condition unread taken held → (n : ℕ) → IsClosedByNone n actions → replies_to n actions ++ owes n ≡ sent_of n more

  owed_still : (old new : Hub A) (w : State) (owes : ℕ → List ℕ) → SameBehind old new → ((n : ℕ) → IsOwed w (behind_at old.connections.items n) (owes n)) → (n : ℕ) → IsOwed w (behind_at new.connections.items n) (owes n)
  owed_still old new w owes behind h n = subst (λ (b : Behind). IsOwed w b (owes n)) (sym (behind n)) (h n)

  -- the hub keeps other bytes, over the same store
  moved : (old new : Hub A) (first : State) (records : List Record) (holds later owes : ℕ → List ℕ) → new.store ≡ old.store → new.config ≡ old.config → SameBehind old new
      → ((lines : ℕ → Line) → KeepsHolding condition old lines holds → KeepsHolding condition new lines later)
      → RepresentsOwingAfter condition old first records holds owes → RepresentsOwingAfter condition new first records later owes
  moved old new first records holds later owes store config behind keeps h = record {
    world = h.world;
    run = subst (λ (c : Config). Run c first records h.world) (sym config) h.run;
    at = record {
      at = record {
        state = subst (λ (s : A). Represents (condition s) h.world.state) (sym store) h.at.at.state;
        kept = keeps h.world.line h.at.at.kept;
      };
      owes = owed_still old new h.world.state owes behind h.at.owes;
    };
  }

  stood : (old new : Hub A) (first : State) (records : List Record) (holds owes : ℕ → List ℕ) → HubStandsStill condition old new → new.config ≡ old.config
      → ((s : State) (n : ℕ) → IsOwed s (behind_at old.connections.items n) (owes n) → IsOwed s (behind_at new.connections.items n) (owes n)) → IsClean condition new
      → RepresentsOwingAfter condition old first records holds owes → RepresentsOwingAfter condition new first records holds owes
  stood old new first records holds owes still config owed clean h = record {
    world = h.world;
    run = subst (λ (c : Config). Run c first records h.world) (sym config) h.run;
    at = record { at = still clean h.world holds h.at.at; owes = λ n. owed h.world.state n (h.at.owes n) };
  }

  -- no action more
  none_more : (p q : Position A R K S) (first : State) (before : List Record) (actions : List HostAction) (m : OwesBehind p first before actions) → RepresentsOwingAfter condition q.hub first (before ++ m.more) m.holds m.owes → OwesBehind q first before (actions ++ [])
  none_more p q first before actions m represents = record {
    more = m.more;
    holds = m.holds;
    owes = m.owes;
    follows = subst (λ (l : List HostAction). Follows (λ n. []) l m.more m.holds) (sym (append-nil actions)) m.follows;
    represents = represents;
    joins = λ all n is_open. ap (λ (l : List HostAction). replies_to n l ++ m.owes n) (append-nil actions) ∙ m.joins all n (subst (λ (l : List HostAction). IsClosedByNone n l) (append-nil actions) is_open);
  }

  -- a record more
  one_more : (new : Hub A) (first : State) (before more : List Record) (holds owes : ℕ → List ℕ) (one : Record) → RepresentsOwingAfter condition new first ((before ++ more) ++ one ∷ []) holds owes → RepresentsOwingAfter condition new first (before ++ (more ++ one ∷ [])) holds owes
  one_more new first before more holds owes one represents = subst (λ (l : List Record). RepresentsOwingAfter condition new first l holds owes) (append_assoc before more (one ∷ [])) represents

  -- a action more, for which nothing is sent
  unsent_one : (n : ℕ) (actions : List HostAction) (d : HostAction) → sent_by_action n d ≡ [] → replies_to n (actions ++ d ∷ []) ≡ replies_to n actions
  unsent_one n actions d none = replies_one n actions d ∙ (ap (λ (l : List ℕ). replies_to n actions ++ l) none ∙ append-nil (replies_to n actions))

  unreported_one : (n : ℕ) (records : List Record) (r : Record) → sent_for n r.event r.sent ≡ [] → sent_of n (records ++ r ∷ []) ≡ sent_of n records
  unreported_one n records r none = sent_one n records r ∙ (ap (λ (l : List ℕ). sent_of n records ++ l) none ∙ append-nil (sent_of n records))

  step_owes : {p q : Position A R K S} {actions more : List HostAction} (first : State) (before : List Record) → AllAgree condition unread taken held p → OwesBehind p first before actions → HostStep condition unread taken held p q more
      → IsClean condition q.hub → OwesBehind q first before (actions ++ more)
  step_owes {p = p} {q = q} {actions = actions} first before all m (refused r) clean =
      none_more p q first before actions m (moved p.hub q.hub first (before ++ m.more) m.holds m.holds m.owes r.same_store r.same_config r.behind (λ lines h. r.keeps lines m.holds h) m.represents)
  step_owes {p = p} {q = q} {actions = actions} first before all m (asks r) clean =
      none_more p q first before actions m (stood p.hub q.hub first (before ++ m.more) m.holds m.owes r.represents r.hub.same_config (λ s n h. asked_owed condition s n (m.owes n) p.hub q.hub r.behind h) clean m.represents)
  step_owes {p = p} {q = q} {actions = actions} first before all m (rests t r) clean =
      none_more p q first before actions m (subst (λ (h : Hub A). RepresentsOwingAfter condition h first (before ++ m.more) m.holds m.owes) (sym r.same) m.represents)
  step_owes {p = p} {q = q} {actions = actions} first before all m (delays {before = slot} t d) clean =
      none_more p q first before actions m (stood p.hub q.hub first (before ++ m.more) m.holds m.owes (kept_back_still condition p.hub q.hub slot.connection d.keeps) t.hub.same_config
      (λ s n h. kept_owed s n slot.connection m.owes p.hub q.hub d.keeps h) clean m.represents)
  step_owes {p = p} {q = q} {actions = actions} first before all m (comes {at = at} {slot = slot} r) clean =
      let d : HostAction = Opens at slot.connection (unread slot.source) in
      let one : Record = record { event = Connect slot.connection; sent = [] } in
      let h = m.represents in
      record {
        more = m.more ++ one ∷ [];
        holds = m.holds;
        owes = m.owes;
        follows = opens at slot.connection (unread slot.source) m.follows;
        represents = one_more q.hub first before m.more m.holds m.owes one (record {
          world = record h.world { line = with_line slot.connection (Live []) h.world.line };
          run = subst (λ (c : Config). Run c first ((before ++ m.more) ++ one ∷ []) (record h.world { line = with_line slot.connection (Live []) h.world.line })) (sym r.same_config) (runs_on h.run connects);
          at = record {
            at = record {
              state = subst (λ (s : A). Represents (condition s) h.world.state) (sym r.same_store) h.at.at.state;
              kept = r.moves h.world.line m.holds h.at.at.kept;
            };
            owes = owed_still p.hub q.hub h.world.state m.owes r.behind h.at.owes;
          };
        });
        joins = λ reports n is_open. joins_same (replies_to n actions) (m.owes n) (sent_of n m.more) _ (m.owes n) _ (m.joins reports n (open_before n actions (d ∷ []) is_open)) (unsent_one n actions d refl) refl (unreported_one n m.more one refl);
      }
  step_owes {p = p} {q = q} {actions = actions} first before all m (offers {at = at} {before = slot} t o) clean =
      let d : HostAction = Takes at slot.connection o.piece in
      record {
        more = m.more;
        holds = with_held slot.connection (m.holds slot.connection ++ o.piece) m.holds;
        owes = m.owes;
        follows = takes at slot.connection o.piece m.follows;
        represents = moved p.hub q.hub first (before ++ m.more) m.holds (with_held slot.connection (m.holds slot.connection ++ o.piece) m.holds) m.owes o.same_store t.hub.same_config o.behind (λ lines h. o.holds lines m.holds h) m.represents;
        joins = λ reports n is_open. joins_same (replies_to n actions) (m.owes n) (sent_of n m.more) _ (m.owes n) (sent_of n m.more) (m.joins reports n (open_before n actions (d ∷ []) is_open)) (unsent_one n actions d refl) refl refl;
      }
  step_owes {p = p} {q = q} {actions = actions} first before all m (refuses {at = at} {moment = moment} {before = slot} t r) clean =
      let h = m.represents in
      let came = r.answers.answers (honest q.hub.store clean) h.world m.holds h.at.at in
      let a = came.0 in
      let d : HostAction = Declines at slot.connection r.piece moment r.answers.sent in
      let one : Record = record { event = Arrive slot.connection a.part moment; sent = r.answers.sent } in
      let same : a.left ≡ h.world.state = stays_unanswered a.arrives came.1.0 in
      let none : m.owes slot.connection ≡ [] = paid_off h.world.state _ (m.owes slot.connection) (read_unsent _ slot.state.phase r.read.waits (all at slot t.sat)) (h.at.owes slot.connection) in
      record {
        more = m.more ++ one ∷ [];
        holds = with_held slot.connection a.rest m.holds;
        owes = m.owes;
        follows = declines at slot.connection moment r.piece a.part a.rest r.answers.sent m.follows a.whole;
        represents = one_more q.hub first before m.more _ m.owes one (record {
          world = record { state = a.left; line = with_line slot.connection a.line h.world.line };
          run = subst (λ (c : Config). Run c first ((before ++ m.more) ++ one ∷ []) (record { state = a.left; line = with_line slot.connection a.line h.world.line })) (sym t.hub.same_config) (runs_on h.run (arrives a.arrives));
          at = record {
            at = a.represents clean;
            owes = λ n. subst (λ (s : State). IsOwed s (behind_at q.hub.connections.items n) (m.owes n)) (sym same) (owed_still p.hub q.hub h.world.state m.owes r.behind h.at.owes n);
          };
        });
        joins = λ reports n is_open.
            let joined = m.joins reports n (open_before n actions (d ∷ []) is_open) in
            elim (cases_eq slot.connection n) [
              | inl e ↦
                  let gone : m.owes n ≡ [] = ap m.owes (sym e) ∙ none in
                  ap (λ (l : List ℕ). l ++ m.owes n) (replies_one n actions d ∙ ap (λ (l : List ℕ). replies_to n actions ++ l) (here slot.connection n r.answers.sent [] e))
                  ∙ (joins_more (replies_to n actions) (m.owes n) (sent_of n m.more) r.answers.sent (m.owes n) r.answers.sent joined gone (ap (λ (l : List ℕ). r.answers.sent ++ l) gone ∙ append-nil r.answers.sent)
                  ∙ sym (sent_one n m.more one ∙ ap (λ (l : List ℕ). sent_of n m.more ++ l) (here slot.connection n r.answers.sent [] e)))
              | inr ne ↦ joins_same (replies_to n actions) (m.owes n) (sent_of n m.more) _ (m.owes n) _ joined (unsent_one n actions d (elsewhere slot.connection n r.answers.sent [] ne)) refl
                  (unreported_one n m.more one (elsewhere slot.connection n r.answers.sent [] ne))
            ];
      }
  step_owes {p = p} {q = q} {actions = actions} first before all m (answers {at = at} {moment = moment} {before = slot} {after = after} t a) clean =
      let h = m.represents in
      let came = a.answers.answers (honest q.hub.store clean) h.world m.holds h.at.at in
      let d : HostAction = Replies at slot.connection moment a.now a.answers.sent in
      let one : Record = record { event = Arrive slot.connection came.0.part moment; sent = a.answers.sent } in
      let none : m.owes slot.connection ≡ [] = paid_off h.world.state _ (m.owes slot.connection) a.paid (h.at.owes slot.connection) in
      record {
        more = m.more ++ one ∷ [];
        holds = with_held slot.connection came.0.rest m.holds;
        owes = with_held slot.connection (bytes_later a.more) m.owes;
        follows = replies at slot.connection moment came.0.part came.0.rest a.now a.answers.sent m.follows came.0.whole;
        represents = one_more q.hub first before m.more _ _ one (replied p.hub q.hub slot.connection moment a.answers.sent _ _ _ first (before ++ m.more) m.holds m.owes (bytes_later a.more) h came.0 t.hub.same_config
            (at_most_one a.next _ _ _ came.1) a.free a.others a.owes (honest q.hub.store clean) clean);
        joins = λ reports n is_open.
            let joined = m.joins reports n (open_before n actions (d ∷ []) is_open) in
            let whole = joins_reply (reported taken held slot.wire) (reported taken held after.wire) a.more a.now a.answers.sent a.appends a.answers.appends (reports_of condition unread taken held reports slot) (reports_of condition unread taken held reports after) in
            elim (cases_eq slot.connection n) [
              | inl e ↦
                  let gone : m.owes n ≡ [] = ap m.owes (sym e) ∙ none in
                  ap (λ (l : List ℕ). l ++ with_held slot.connection (bytes_later a.more) m.owes n) (replies_one n actions d ∙ ap (λ (l : List ℕ). replies_to n actions ++ l) (here slot.connection n a.now [] e))
                  ∙ (ap (λ (l : List ℕ). (replies_to n actions ++ a.now) ++ l) (here n slot.connection (bytes_later a.more) (m.owes n) (sym e))
                  ∙ (joins_more (replies_to n actions) (m.owes n) (sent_of n m.more) a.now (bytes_later a.more) a.answers.sent joined gone whole
                  ∙ sym (sent_one n m.more one ∙ ap (λ (l : List ℕ). sent_of n m.more ++ l) (here slot.connection n a.answers.sent [] e))))
              | inr ne ↦ joins_same (replies_to n actions) (m.owes n) (sent_of n m.more) _ _ _ joined (unsent_one n actions d (elsewhere slot.connection n a.now [] ne))
                  (elsewhere n slot.connection (bytes_later a.more) (m.owes n) (λ e. ne (sym e))) (unreported_one n m.more one (elsewhere slot.connection n a.answers.sent [] ne))
            ];
      }
  step_owes {p = p} {q = q} {actions = actions} first before all m (sends {at = at} {before = slot} t s) clean =
      let h = m.represents in
      let paid = s.sends.sends (honest q.hub.store clean) h.world m.holds m.owes h.at in
      let d : HostAction = Sends at slot.connection s.sends.sent s.answer in
      record {
        more = m.more;
        holds = m.holds;
        owes = with_held slot.connection paid.0 m.owes;
        follows = follows_sent at slot.connection s.sends.sent s.answer m.follows;
        represents = record {
          world = h.world;
          run = subst (λ (c : Config). Run c first (before ++ m.more) h.world) (sym t.hub.same_config) h.run;
          at = paid.3 clean;
        };
        joins = λ reports n is_open.
            let joined = m.joins reports n (open_before n actions (d ∷ []) is_open) in
            elim (cases_eq slot.connection n) [
              | inl e ↦ ap (λ (l : List ℕ). l ++ with_held slot.connection paid.0 m.owes n) (replies_one n actions d ∙ ap (λ (l : List ℕ). replies_to n actions ++ l) (here slot.connection n s.sends.sent [] e))
                  ∙ (ap (λ (l : List ℕ). (replies_to n actions ++ s.sends.sent) ++ l) (here n slot.connection paid.0 (m.owes n) (sym e))
                  ∙ joins_less (replies_to n actions) (m.owes n) (sent_of n m.more) s.sends.sent paid.0 joined (ap m.owes (sym e) ∙ paid.1))
              | inr ne ↦ joins_same (replies_to n actions) (m.owes n) (sent_of n m.more) _ _ (sent_of n m.more) joined (unsent_one n actions d (elsewhere slot.connection n s.sends.sent [] ne))
                  (elsewhere n slot.connection paid.0 (m.owes n) (λ e. ne (sym e))) refl
            ];
      }
  step_owes {p = p} {q = q} {actions = actions} first before all m (leaves {at = at} {second = second} {reason = reason} {slot = slot} r) clean =
      let h = m.represents in
      let d : HostAction = Closes at slot.connection second reason in
      let one : Record = record { event = Close slot.connection; sent = [] } in
      record {
        more = m.more ++ one ∷ [];
        holds = with_held slot.connection [] m.holds;
        owes = with_held slot.connection [] m.owes;
        follows = closes at slot.connection second reason m.follows;
        represents = one_more q.hub first before m.more _ _ one (record {
          world = record h.world { line = with_line slot.connection Absent h.world.line };
          run = subst (λ (c : Config). Run c first ((before ++ m.more) ++ one ∷ []) (record h.world { line = with_line slot.connection Absent h.world.line })) (sym r.same_config) (runs_on h.run closes_line);
          at = record {
            at = record {
              state = subst (λ (s : A). Represents (condition s) h.world.state) (sym r.same_store) h.at.at.state;
              kept = r.moves h.world.line m.holds h.at.at.kept;
            };
            owes = λ n. subst (λ (b : Behind). IsOwed h.world.state b (with_held slot.connection [] m.owes n)) (sym (r.behind n)) (owed_closed h.world.state (n == slot.connection) _ (m.owes n) (h.at.owes n));
          };
        });
        joins = λ reports n is_open. joins_same (replies_to n actions) (m.owes n) (sent_of n m.more) _ _ _ (m.joins reports n (open_before n actions (d ∷ []) is_open)) (unsent_one n actions d refl)
            (elsewhere n slot.connection [] (m.owes n) (open_last n actions (d ∷ []) is_open).0) (unreported_one n m.more one refl);
      }

  steps_owe : {p q : Position A R K S} {actions : List HostAction} (first : State) (before : List Record) → ((at : ℕ) → slot_at at p.slots ≡ None) → OwesNone p.hub
      → RepresentsHoldingAfter condition p.hub first before (λ n. []) → Steps condition unread taken held p actions q → IsClean condition q.hub → OwesBehind q first before actions
  steps_owe {p = p} first before empty unowed h begins clean = record {
    more = [];
    holds = λ n. [];
    owes = λ n. [];
    follows = follows_none;
    represents = subst (λ (l : List Record). RepresentsOwingAfter condition p.hub first l (λ n. []) (λ n. [])) (sym (append-nil before)) (record {
      world = h.world;
      run = h.run;
      at = record { at = h.at; owes = λ n. subst (λ (b : Behind). IsOwed h.world.state b []) (sym (unowed n)) refl };
    });
    joins = λ reports n is_open. refl;
  }
  steps_owe first before empty unowed h (goes_on s t) clean =
      step_owes first before (steps_agree condition unread taken held empty s) (steps_owe first before empty unowed h s (clean_before condition unread taken held t clean)) t clean

  -- so the promise is kept
  promise_of : (p q : Position A R K S) (actions : List HostAction) (first : State) (before : List Record) → ((at : ℕ) → slot_at at p.slots ≡ None) → Steps condition unread taken held p actions q
      → OwesBehind q first before actions → KeepsPromise condition unread taken held q first before actions
  promise_of p q actions first before empty steps it = record {
    behind = record {
      more = it.more;
      holds = it.holds;
      follows = it.follows;
      represents = record { world = it.represents.world; run = it.represents.run; at = it.represents.at.at };
    };
    owed = it.owes;
    owes = it.represents.at.owes;
    sent = λ reports holds at slot sits. known_joined (reported taken held slot.wire) (replies_to slot.connection actions) (it.owes slot.connection) (sent_of slot.connection it.more)
        (wires_take condition unread taken held p q actions reports holds empty steps at slot sits) (it.joins (reports, holds) slot.connection (slots_stay condition unread taken held p q actions empty steps at slot sits));
    read = λ at slot sits. reads_arrive slot.connection it.follows (slots_stay condition unread taken held p q actions empty steps at slot sits);
    given = λ gives at slot sits. reads_given condition unread taken held gives p q actions empty steps at slot sits;
  }

  pub keeps_promise : (p q : Position A R K S) (actions : List HostAction) (first : State) (before : List Record) → ((at : ℕ) → slot_at at p.slots ≡ None) → OwesNone p.hub
      → RepresentsHoldingAfter condition p.hub first before (λ n. []) → Steps condition unread taken held p actions q → IsClean condition q.hub → KeepsPromise condition unread taken held q first before actions
  keeps_promise p q actions first before empty unowed h steps clean = promise_of p q actions first before empty steps (steps_owe first before empty unowed h steps clean)

  -- of the same actions, written in another way
  behind_all : (q : Position A R K S) (first : State) (before : List Record) (xs ys : List HostAction) (m : OwesBehind q first before xs) → xs ≡ ys → OwesBehind q first before ys
  behind_all q first before xs ys m e = record {
    more = m.more;
    holds = m.holds;
    owes = m.owes;
    follows = subst (λ (l : List HostAction). Follows (λ n. []) l m.more m.holds) e m.follows;
    represents = m.represents;
    joins = λ all n is_open. subst (λ (l : List HostAction). replies_to n l ++ m.owes n ≡ sent_of n m.more) e (m.joins all n (subst (λ (l : List HostAction). IsClosedByNone n l) (sym e) is_open));
  }

  all_clean : {m q : Position A R K S} {late : List HostAction} → Steps condition unread taken held m late q → IsClean condition q.hub → IsClean condition m.hub
  all_clean begins clean = clean
  all_clean (goes_on s t) clean = all_clean s (clean_before condition unread taken held t clean)

  -- a step that sends a part makes what is owed shorter, and none makes it longer, but an answer
  step_pays : {p q : Position A R K S} {actions more : List HostAction} (first : State) (before : List Record) (all : AllAgree condition unread taken held p) (m : OwesBehind p first before actions) (s : HostStep condition unread taken held p q more)
      (clean : IsClean condition q.hub) (n : ℕ) → reply_count n more ≡ 0 → parts_of n more + length ((step_owes first before all m s clean).owes n) ≤ length (m.owes n)
  unfolding step_owes none_more
  step_pays first before all m (refused r) clean n none = as_many (length (m.owes n))
  step_pays first before all m (asks r) clean n none = as_many (length (m.owes n))
  step_pays first before all m (rests t r) clean n none = as_many (length (m.owes n))
  step_pays first before all m (delays t d) clean n none = as_many (length (m.owes n))
  step_pays first before all m (comes r) clean n none = as_many (length (m.owes n))
  step_pays first before all m (offers t o) clean n none = as_many (length (m.owes n))
  step_pays first before all m (refuses t r) clean n none = as_many (length (m.owes n))
  step_pays first before all m (answers {at = at} {moment = moment} {before = slot} t a) clean n none = elim (cases_eq slot.connection n) [
    | inl e ↦ absurd (let one = ap (λ (b : Bool). (if b then 1 else 0) + 0) (eq-eqb slot.connection n e) in let no : ⊥ = omega (arith, none, one) in no)
    | inr ne ↦
        let same = ap (λ (l : List ℕ). length l) (elsewhere n slot.connection (bytes_later a.more) (m.owes n) (λ e. ne (sym e))) in
        let less : 0 + length (with_held slot.connection (bytes_later a.more) m.owes n) ≤ length (m.owes n) = omega (arith, same) in less
  ]
  step_pays first before all m (sends {at = at} {before = slot} t s) clean n none =
      let paid = s.sends.sends (honest _ clean) m.represents.world m.holds m.owes m.represents.at in
      elim (cases_eq slot.connection n) [
        | inl e ↦
            let few = paid_part s.answer s.sends.sent paid.0 (m.owes slot.connection) paid.1 paid.2 in
            let here_too = ap (λ (l : List ℕ). length l) (here n slot.connection paid.0 (m.owes n) (sym e)) in
            let one = ap (λ (b : Bool). (if b then if is_part s.answer then 1 else 0 else 0) + 0) (eq-eqb slot.connection n e) in
            let owed = ap (λ (k : ℕ). length (m.owes k)) e in
            let less : ((if slot.connection == n then if is_part s.answer then 1 else 0 else 0) + 0) + length (with_held slot.connection paid.0 m.owes n) ≤ length (m.owes n) = omega (arith, few, here_too, one, owed) in less
        | inr ne ↦
            let same = ap (λ (l : List ℕ). length l) (elsewhere n slot.connection paid.0 (m.owes n) (λ e. ne (sym e))) in
            let zero_parts = ap (λ (b : Bool). (if b then if is_part s.answer then 1 else 0 else 0) + 0) (ne_eqb slot.connection n ne) in
            let less : ((if slot.connection == n then if is_part s.answer then 1 else 0 else 0) + 0) + length (with_held slot.connection paid.0 m.owes n) ≤ length (m.owes n) = omega (arith, same, zero_parts) in less
      ]
  step_pays first before all m (leaves {slot = slot} r) clean n none = elim (cases_eq n slot.connection) [
    | inl e ↦ let gone = ap (λ (l : List ℕ). length l) (here n slot.connection [] (m.owes n) e) in let less : 0 + length (with_held slot.connection [] m.owes n) ≤ length (m.owes n) = omega (arith, gone) in less
    | inr ne ↦ let same = ap (λ (l : List ℕ). length l) (elsewhere n slot.connection [] (m.owes n) ne) in let less : 0 + length (with_held slot.connection [] m.owes n) ≤ length (m.owes n) = omega (arith, same) in less
  ]

  -- so do all of them
  steps_pay : {p m q : Position A R K S} {early late : List HostAction} (first : State) (before : List Record) → ((at : ℕ) → slot_at at p.slots ≡ None) → Steps condition unread taken held p early m → (it : OwesBehind m first before early)
      → Steps condition unread taken held m late q → IsClean condition q.hub → (now : OwesBehind q first before (early ++ late)) × ((n : ℕ) → reply_count n late ≡ 0 → parts_of n late + length (now.owes n) ≤ length (it.owes n))
  unfolding none_more behind_all step_owes
  steps_pay {early = early} first before empty came it begins clean =
      (none_more _ _ first before early it it.represents, λ n none. as_many (length (it.owes n)))
  steps_pay {p = p} {q = q} {early = early} first before empty came it (goes_on {actions = actions} {more = more} s t) clean =
      let so_far = steps_pay first before empty came it s (clean_before condition unread taken held t clean) in
      let all = steps_agree condition unread taken held empty (steps_join condition unread taken held came s) in
      let one = step_owes first before all so_far.0 t clean in (
        behind_all q first before ((early ++ actions) ++ more) (early ++ (actions ++ more)) one (append_assoc early actions more),
        λ n none.
            let a = replies_join n actions more in
            let b = parts_join n actions more in
            let x = so_far.1 n (omega (arith, a, none)) in
            let y = step_pays first before all so_far.0 t clean n (omega (arith, a, none)) in
            let less : parts_of n (actions ++ more) + length (one.owes n) ≤ length (it.owes n) = omega (arith, b, x, y) in less,
      )

  pub pays_off : (p m q : Position A R K S) (early late : List HostAction) (first : State) (before : List Record) → ((at : ℕ) → slot_at at p.slots ≡ None) → OwesNone p.hub → RepresentsHoldingAfter condition p.hub first before (λ n. [])
      → Steps condition unread taken held p early m → Steps condition unread taken held m late q → IsClean condition q.hub
      → (was : KeepsPromise condition unread taken held m first before early) × (now : KeepsPromise condition unread taken held q first before (early ++ late))
      × ((number : ℕ) → reply_count number late ≡ 0 → parts_of number late + length (now.owed number) ≤ length (was.owed number))
  unfolding promise_of steps_owe
  pays_off p m q early late first before empty unowed h came goes clean =
      let it = steps_owe first before empty unowed h came (all_clean goes clean) in
      let now = steps_pay first before empty came it goes clean in
      (promise_of p m early first before empty came it, promise_of p q (early ++ late) first before empty (steps_join condition unread taken held came goes) now.0, now.1)
