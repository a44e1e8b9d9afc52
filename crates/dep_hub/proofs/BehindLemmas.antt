-- What is behind the last replies of connections.
use Rattle.std.specs.Prelude.{◌||◌}
use Rattle.std.proofs.Common.{◌≡◌, ◌≢◌, ◌⊎◌, inl, inr, ℕ, suc, zero, ◌==◌, ◌+◌, ◌<◌, ◌≤◌, Bool, true, false, List, [], ◌∷◌, ◌++◌, get_or, set, drop, Option, Some, None, Result, Ok, Err, if◌then◌else◌, refl, sym, ap, subst, ◌∙◌, arith}
use Rattle.std.specs.Option.{option_map}
use Rattle.std.proofs.lemmas.Bool.Decides.{nat_tests}
use Rattle.std.proofs.lemmas.List.{append-nil}
use Rattle.std.specs.Io.KnownBytes.{Appends}
use Rattle.std.proofs.KnownBytes.{Appends-nil}
use Rattle.std.proofs.lemmas.Bool.{eq-eqb, eqb-true}
use Rattle.dep_types.specs.State.{State, File, file_at}
use Rattle.dep_types.specs.declared.config.Config.{Config}
use Rattle.dep_types.specs.Conditions.{Condition, Represents, HasCleanDisk, Leaves}
use Rattle.dep_types.specs.declared.stream_fault.StreamFault.{StreamFault}
use Rattle.dep_message.specs.Places.{Reading}
use Rattle.dep_exchange.specs.Records.{Line}
use Rattle.dep_exchange.specs.Shut.{LeavesNoMore, IfShut}
use Rattle.dep_hub.specs.Representing.{intake_of, store_of, IsClean, IsHonest}
use Rattle.dep_hub.specs.Holding.{IsHeldAs, KeepsHolding, with_held}
use Rattle.dep_answers.specs.declared.performed.StoredFile.{StoredFile}
use Rattle.std.specs.List.{remove}
use Rattle.dep_hub.specs.Numbers.{place_of_number, Ascends}
use Rattle.dep_exchange.specs.Archives.{CountsFailures, FailsIfShut, KeepsState}
use Rattle.dep_exchange.specs.Owing.{HasBehind, IsPrefixBehind, IsLater, StreamsOn, TakesFew}
use Rattle.dep_hub.specs.Owed.{IsOwed, behind_then, later_than, bytes_later, told_then}
use Rattle.dep_hub.specs.RepresentsOwing.{IsPaid, OthersStay, SendsOn, behind_at, is_part}
use Rattle.dep_exchange.specs.declared.next.Next.{Next}
use Rattle.dep_exchange.specs.declared.next.Next.TheVariants.{NoSuch}
use Rattle.dep_hub.specs.declared.sent_on.SentOn.{SentOn}
use Rattle.dep_hub.specs.declared.sent_on.SentOn.TheVariants.{Part, All, Broken as BrokenOff}
use Rattle.dep_hub.specs.Claims.{is_content, is_waiting, sends_of}
use Rattle.dep_exchange.specs.declared.rest.Rest.{Rest}
use Rattle.dep_hub.specs.declared.claim.Files.{Files}
use Rattle.dep_hub.specs.declared.hub.Hub.{Hub}
use Rattle.dep_hub.specs.declared.connections.Connection.{Connection}
use Rattle.dep_hub.specs.declared.rest.Behind.{Behind}
use Rattle.dep_hub.specs.declared.claim.Claim.{Claim}
use Rattle.dep_hub.specs.declared.rest.Behind.TheVariants.{Nothing, Content, Broken, Waits, Prepares, Prepared}
use Rattle.dep_hub.proofs.ConnectionLemmas.{index_some, intake_set}
use Rattle.dep_exchange.proofs.Leaving.{Settles, leaves_once}
use Rattle.dep_exchange.proofs.OwingLemmas.{few_none}

some_not_none : (o : Option ℕ) → option_map suc o ≡ None → o ≡ None
some_not_none None e = refl
some_not_none (Some j) e = cc

some_suc : (o : Option ℕ) (i : ℕ) → option_map suc o ≡ Some (suc i) → o ≡ Some i
some_suc None i e = cc
some_suc (Some j) i e = cc

some_suc_zero : (o : Option ℕ) → option_map suc o ≡ Some zero → ⊥
some_suc_zero None e = cc
some_suc_zero (Some j) e = cc

-- what is behind the reply of the connection at the index
behind_some_at : (n i : ℕ) (d : Connection) (cs : List Connection) (c : Connection) (b : Bool) → b ≡ (d.number == n)
    → (if b then Some 0 else option_map suc (place_of_number n cs)) ≡ Some i → c ≡ get_or (d ∷ cs) i c
    → ((j : ℕ) → place_of_number n cs ≡ Some j → c ≡ get_or cs j c → behind_at cs n ≡ c.behind)
    → (if b then d.behind else behind_at cs n) ≡ c.behind
behind_some_at n zero d cs c true e i f k = ap (λ (x : Connection). x.behind) (sym f)
behind_some_at n (suc i) d cs c true e i' f k = cc
behind_some_at n zero d cs c false e i' f k = absurd (some_suc_zero (place_of_number n cs) i')
behind_some_at n (suc i) d cs c false e i' f k = k i (some_suc (place_of_number n cs) i i') f

pub behind_some : (n i : ℕ) (cs : List Connection) (c : Connection) → place_of_number n cs ≡ Some i → c ≡ get_or cs i c → behind_at cs n ≡ c.behind
behind_some n i [] c e f = cc
behind_some n i (d ∷ cs) c e f = behind_some_at n i d cs c (d.number == n) refl e f (λ j. behind_some n j cs c)

behind_none_at : (n : ℕ) (c : Connection) (cs : List Connection) (b : Bool)
    → (if b then Some 0 else option_map suc (place_of_number n cs)) ≡ None → (place_of_number n cs ≡ None → behind_at cs n ≡ Nothing)
    → (if b then c.behind else behind_at cs n) ≡ Nothing
behind_none_at n c cs true i k = cc
behind_none_at n c cs false i k = k (some_not_none (place_of_number n cs) i)

-- nothing is behind a reply of who is not there
pub behind_none : (n : ℕ) (cs : List Connection) → place_of_number n cs ≡ None → behind_at cs n ≡ Nothing
behind_none n [] e = refl
behind_none n (c ∷ cs) e = behind_none_at n c cs (c.number == n) e (behind_none n cs)

-- a connection is changed where it stands
behind_set_at : (n i : ℕ) (c : Connection) (cs : List Connection) (d : Connection) (b : Bool) → b ≡ (c.number == n)
    → (if b then Some 0 else option_map suc (place_of_number n cs)) ≡ Some i → d.number ≡ n → (m : ℕ)
    → ((j : ℕ) → place_of_number n cs ≡ Some j → behind_at (set cs j d) m ≡ (if m == n then d.behind else behind_at cs m))
    → behind_at (set (c ∷ cs) i d) m ≡ (if m == n then d.behind else behind_at (c ∷ cs) m)
behind_set_at n zero c cs d true e i f m k = grind (arith, nat_tests)
behind_set_at n (suc i) c cs d true e i' f m k = cc
behind_set_at n zero c cs d false e i' f m k = absurd (some_suc_zero (place_of_number n cs) i')
behind_set_at n (suc i) c cs d false e i' f m k = let h = k i (some_suc (place_of_number n cs) i i') in grind (arith, nat_tests, h)

pub behind_set : (n i : ℕ) (cs : List Connection) (d : Connection) → place_of_number n cs ≡ Some i → d.number ≡ n
    → (m : ℕ) → behind_at (set cs i d) m ≡ (if m == n then d.behind else behind_at cs m)
behind_set n i [] d e f m = cc
behind_set n i (c ∷ cs) d e f m = behind_set_at n i c cs d (c.number == n) refl e f m (λ j h. behind_set n j cs d h f m)

-- ---- what a file has behind so many bytes

same_file : (s : State) (it : StoredFile) (a b : File) → file_at s it.object it.file ≡ Some a → file_at s it.object it.file ≡ Some b → a ≡ b
same_file s it a b h k = let e : Some a ≡ Some b = sym h ∙ k in cc

pub one_behind : (s : State) (it : StoredFile) (start : ℕ) (xs ys : List ℕ) → HasBehind s it start xs → HasBehind s it start ys → xs ≡ ys
one_behind s it start xs ys h k = sym h.is ∙ (ap (λ (f : File). drop start f.content) (same_file s it h.file k.file h.held k.held) ∙ k.is)

pub front_behind : (s : State) (it : StoredFile) (start : ℕ) (owed sent : List ℕ) → HasBehind s it start owed → IsPrefixBehind s it start sent
    → (rest : List ℕ) × (owed ≡ sent ++ rest)
front_behind s it start owed sent h k = let x = k h.file h.held in (x.0, sym h.is ∙ x.1)

-- ---- what a hub owes

if_same : {X : Type 0} (b : Bool) (x y : X) → (b ≡ true → x ≡ y) → (if b then x else y) ≡ y
if_same true x y k = k refl
if_same false x y k = refl

owed_if : (s : State) (t : Bool) (b b' : Behind) (xs ys : List ℕ) → IsOwed s b xs → IsOwed s b' ys → IsOwed s (if t then b else b') (if t then xs else ys)
owed_if s true b b' xs ys h k = h
owed_if s false b b' xs ys h k = k

-- a later rest of a content is owed
pub owed_later : (store : Condition) (r : Option Rest) (more : Option (List ℕ)) → IsLater store r more → HasCleanDisk store → (s : State) → Represents store s
    → IsOwed s (later_than r) (bytes_later more)
owed_later store None more later disk s represents = ap bytes_later later
owed_later store (Some r) more later disk s represents =
    subst (λ (l : List ℕ). HasBehind s r.file r.sent l) (sym (ap bytes_later later.1)) (later.2 disk s represents)

-- what is paid of what is owed
paid_part : (s : State) (it : StoredFile) (start next : ℕ) (owed sent : List ℕ) → HasBehind s it start owed
    → (x : (rest : List ℕ) × HasBehind s it next rest × HasBehind s it start (sent ++ rest) × (sent ≢ []))
    → (rest : List ℕ) × (owed ≡ sent ++ rest) × IsPaid Part sent rest × IsOwed s (Content (record { file = it; sent = next })) rest
paid_part s it start next owed sent h x = (x.0, one_behind s it start owed (sent ++ x.0) h x.2, x.3, x.1)

paid_all : (s : State) (it : StoredFile) (start : ℕ) (owed sent : List ℕ) → HasBehind s it start owed → HasBehind s it start sent
    → (rest : List ℕ) × (owed ≡ sent ++ rest) × IsPaid All sent rest × IsOwed s Nothing rest
paid_all s it start owed sent h x = ([], one_behind s it start owed sent h x ∙ sym (append-nil sent), refl, refl)

-- of a reply that was all sent no bytes are owed, and no content
pub all_sent : (b : Behind) → (b ≡ Nothing) ⊎ (((x : Claim) × (b ≡ Waits x)) ⊎ (((x : ℕ) × (b ≡ Prepares x)) ⊎ (b ≡ Prepared)))
    → ((s : State) (owed : List ℕ) → IsOwed s b owed → owed ≡ []) × (is_content b ≡ false)
all_sent b (inl e) = (λ s owed h. subst (λ (x : Behind). IsOwed s x owed) e h, ap is_content e)
all_sent b (inr (inl (x, e))) = (λ s owed h. subst (λ (x : Behind). IsOwed s x owed) e h, ap is_content e)
all_sent b (inr (inr (inl (x, e)))) = (λ s owed h. subst (λ (x : Behind). IsOwed s x owed) e h, ap is_content e)
all_sent b (inr (inr (inr e))) = (λ s owed h. subst (λ (x : Behind). IsOwed s x owed) e h, ap is_content e)

-- where no content is left none is sent
sends_nothing : (files : Files) (before : Behind) → false ≡ true → sends_of files before ≡ true
sends_nothing files before e = cc

paid_broken : (s : State) (it : StoredFile) (start : ℕ) (owed sent : List ℕ) → HasBehind s it start owed → IsPrefixBehind s it start sent
    → (rest : List ℕ) × (owed ≡ sent ++ rest) × IsPaid BrokenOff sent rest × IsOwed s Broken rest
paid_broken s it start owed sent h x = let y = front_behind s it start owed sent h x in (y.0, y.1, tt, tt)

module _ {A : Type 0} (condition : A → Condition) (old new : Hub A) (n : ℕ) (b : Behind)
    (config : new.config ≡ old.config)
    (intakes : (m : ℕ) → intake_of new.connections.items m ≡ intake_of old.connections.items m)
    (behinds : (m : ℕ) → behind_at new.connections.items m ≡ (if m == n then b else behind_at old.connections.items m)) where
  holds_on : (lines : ℕ → Line) (held : ℕ → List ℕ) → KeepsHolding condition old lines held → KeepsHolding condition new lines held
  holds_on lines held kept m =
      subst (λ (x : Config). IsHeldAs x.max_upload (lines m) (held m) (intake_of new.connections.items m)) (sym config)
      (subst (λ o. IsHeldAs old.config.max_upload (lines m) (held m) o) (sym (intakes m)) (kept m))

  owes_on : (s : State) (owed : ℕ → List ℕ) (rest : List ℕ) → ((m : ℕ) → IsOwed s (behind_at old.connections.items m) (owed m)) → IsOwed s b rest
      → (m : ℕ) → IsOwed s (behind_at new.connections.items m) (with_held n rest owed m)
  owes_on s owed rest owes here m =
      subst (λ (x : Behind). IsOwed s x (with_held n rest owed m)) (sym (behinds m))
      (owed_if s (m == n) b (behind_at old.connections.items m) rest (owed m) here (owes m))

  pub others_stay : OthersStay old new n
  others_stay m other = behinds m ∙ if_same (m == n) b (behind_at old.connections.items m) (λ e. absurd (other (eqb-true m n e)))

  -- some of what was owed is sent
  pub sends_on : (before : Behind) → behind_at old.connections.items n ≡ before → (answer : SentOn) (taken takes : Option (List ℕ)) (failures failures_after : ℕ)
      (sent : List ℕ) → Appends taken takes sent
      → (IsHonest condition new → (s : State) → Represents (store_of condition old) s → (owed : List ℕ) → IsOwed s before owed
      → (rest : List ℕ) × (owed ≡ sent ++ rest) × IsPaid answer sent rest × IsOwed s b rest)
      → (IsClean condition new → IsHonest condition new → (s : State) → Represents (store_of condition old) s → Represents (store_of condition new) s)
      → (IsHonest condition new → (s : State) → Represents (store_of condition old) s → Leaves (store_of condition new) (λ found. found ≡ s))
      → IfShut (store_of condition old) (store_of condition new) (LeavesNoMore (store_of condition old) (store_of condition new))
      → (answer ≢ BrokenOff → failures_after ≡ failures) → is_content b ≡ is_part answer → TakesFew taken takes
      → ((files : Files) → sends_of files b ≡ true → sends_of files before ≡ true)
      → SendsOn condition taken takes failures failures_after old new n answer
  sends_on before is answer taken takes failures failures_after sent appends pays stays leaves shut kept left few of_same = record {
    sent = sent;
    appends = appends;
    few = few;
    sends = λ honest w held owed at.
        let p = pays honest w.state at.at.state (owed n) (subst (λ (x : Behind). IsOwed w.state x (owed n)) is (at.owes n)) in (
          p.0,
          p.1,
          p.2,
          (λ clean. record {
            at = record { state = stays clean honest w.state at.at.state; kept = holds_on w.line held at.at.kept };
            owes = owes_on w.state owed p.0 at.owes p.3;
          }),
          leaves honest w.state at.at.state,
        );
    represents = λ honest clean w held at. record { state = stays clean honest w.state at.state; kept = holds_on w.line held at.kept };
    shut = shut;
    kept = kept;
    left = ap is_content (behinds n ∙ ap (λ (t : Bool). if t then b else behind_at old.connections.items n) (eq-eqb n n refl)) ∙ left;
    of_same = λ files sends.
        let here = behinds n ∙ ap (λ (t : Bool). if t then b else behind_at old.connections.items n) (eq-eqb n n refl) in
        ap (sends_of files) is ∙ of_same files (sym (ap (sends_of files) here) ∙ sends);
    others = others_stay;
  }

  -- nothing is left to be sent, and nothing is
  pub sends_none : store_of condition new ≡ store_of condition old → Settles (store_of condition old) → behind_at old.connections.items n ≡ b
      → (answer : SentOn) (taken : Option (List ℕ)) (failures : ℕ) → ((s : State) (owed : List ℕ) → IsOwed s b owed → IsPaid answer [] owed)
      → is_content b ≡ is_part answer → SendsOn condition taken taken failures failures old new n answer
  sends_none store settles is answer taken failures paid left =
      sends_on b is answer taken taken failures failures [] (Appends-nil taken)
      (λ honest s at owed owes. (owed, refl, paid s owed owes, owes))
      (λ clean honest s at. subst (λ (x : Condition). Represents x s) (sym store) at)
      (λ honest s at. subst (λ (x : Condition). Leaves x (λ found. found ≡ s)) (sym store) (settles s at))
      (subst (λ (x : Condition). IfShut (store_of condition old) x (LeavesNoMore (store_of condition old) x)) (sym store) (λ disk none image may. (image, may, λ s. (λ h. h, λ h. h))))
      (λ _. refl) left (few_none taken) (λ files sends. sends)

-- one connection alone has something else behind its reply
module _ (n i : ℕ) (old : List Connection) (c : Connection) (b : Behind) (index : place_of_number n old ≡ Some i) (item : c ≡ get_or old i c) where
  pub intakes_stay : (new : List Connection) → new ≡ set old i (record { number = c.number; intake = c.intake; behind = b })
      → (m : ℕ) → intake_of new m ≡ intake_of old m
  intakes_stay new changed m =
      let found = index_some n i old c index item in
      ap (λ cs. intake_of cs m) changed ∙ (intake_set n i old (record { number = c.number; intake = c.intake; behind = b }) index found.0 m
      ∙ if_same (m == n) (Some c.intake) (intake_of old m) (λ e. sym (ap (intake_of old) (eqb-true m n e) ∙ found.1)))

  pub behinds_are : (now : Reading) (new : List Connection) → new ≡ set old i (record { number = c.number; intake = now; behind = b })
      → (m : ℕ) → behind_at new m ≡ (if m == n then b else behind_at old m)
  behinds_are now new changed m =
      ap (λ cs. behind_at cs m) changed ∙ behind_set n i old (record { number = c.number; intake = now; behind = b }) index (index_some n i old c index item).0 m

-- nothing changes
pub behinds_stay : (n : ℕ) (cs : List Connection) (m : ℕ) → behind_at cs m ≡ (if m == n then behind_at cs n else behind_at cs m)
behinds_stay n cs m = sym (if_same (m == n) (behind_at cs n) (behind_at cs m) (λ e. ap (behind_at cs) (sym (eqb-true m n e))))

-- what stands there is put there again
pub set_here : (i : ℕ) (cs : List Connection) (c : Connection) → c ≡ get_or cs i c → set cs i c ≡ cs
set_here i [] c e = refl
set_here zero (x ∷ cs) c e = ap (λ (y : Connection). y ∷ cs) e
set_here (suc i) (x ∷ cs) c e = ap (λ (l : List Connection). x ∷ l) (set_here i cs c e)

-- what a connection is still to be sent stays, since nothing is left of it
module _ {A : Type 0} (condition : A → Condition) (old new : Hub A) (n i : ℕ) (kept : Connection) (index : place_of_number n old.connections.items ≡ Some i)
    (item : kept ≡ get_or old.connections.items i kept) (config : new.config ≡ old.config) where
  pub nothing_sent : new.store ≡ old.store → new.connections.items ≡ old.connections.items → Settles (condition old.store)
      → (answer : SentOn) (taken : Option (List ℕ)) (failures : ℕ) → ((s : State) (owed : List ℕ) → IsOwed s kept.behind owed → IsPaid answer [] owed)
      → is_content kept.behind ≡ is_part answer → SendsOn condition taken taken failures failures old new n answer
  nothing_sent store same settles answer taken failures paid left =
      let cs = old.connections.items in
      let here = behind_some n i cs kept index item in
      sends_none condition old new n (behind_at cs n) config
      (λ m. ap (λ (l : List Connection). intake_of l m) same)
      (λ m. ap (λ (l : List Connection). behind_at l m) same ∙ behinds_stay n cs m)
      (ap condition store) settles refl answer taken failures
      (λ s owed owes. paid s owed (subst (λ (b : Behind). IsOwed s b owed) here owes)) (ap is_content here ∙ left)

-- a few blocks more of a content are sent
module _ {A : Type 0} (condition : A → Condition) (old new : Hub A) (n i : ℕ) (kept : Connection) (index : place_of_number n old.connections.items ≡ Some i)
    (item : kept ≡ get_or old.connections.items i kept) (config : new.config ≡ old.config) (r : Rest) (is : kept.behind ≡ Content r)
    (taken takes : Option (List ℕ)) (failures failures_after : ℕ) (few : TakesFew taken takes) where
  sends_as : (o : Result (Option ℕ) StreamFault) → KeepsState (condition old.store) (condition new.store) o → FailsIfShut (condition old.store) (condition new.store) o
      → (b : Behind) → new.connections.items ≡ set old.connections.items i (record { number = kept.number; intake = kept.intake; behind = b })
      → (answer : SentOn) (sent : List ℕ) → Appends taken takes sent
      → (IsHonest condition new → (s : State) → Represents (condition old.store) s → (owed : List ℕ) → HasBehind s r.file r.sent owed
      → (rest : List ℕ) × (owed ≡ sent ++ rest) × IsPaid answer sent rest × IsOwed s b rest)
      → (IsClean condition new → IsHonest condition new → (s : State) → Represents (condition old.store) s → Represents (condition new.store) s)
      → (answer ≢ BrokenOff → failures_after ≡ failures) → is_content b ≡ is_part answer
      → ((files : Files) → sends_of files b ≡ true → sends_of files (Content r) ≡ true)
      → SendsOn condition taken takes failures failures_after old new n answer
  sends_as o does shut b changed answer sent appends pays stays kept_failures left of_same =
      sends_on condition old new n b config
      (intakes_stay n i old.connections.items kept b index item new.connections.items changed)
      (behinds_are n i old.connections.items kept b index item kept.intake new.connections.items changed)
      (Content r) (behind_some n i old.connections.items kept index item ∙ is) answer taken takes failures failures_after sent appends pays stays
      (λ honest s at. leaves_once (condition new.store) s (does.stop honest s at tt)) shut.left kept_failures left few of_same

  sends_more : (o : Result (Option ℕ) StreamFault) → new.connections.items ≡ set old.connections.items i (record { number = kept.number; intake = kept.intake; behind = behind_then r o })
      → StreamsOn (condition old.store) (condition new.store) taken takes r.file r.sent o → KeepsState (condition old.store) (condition new.store) o
      → FailsIfShut (condition old.store) (condition new.store) o → CountsFailures failures failures_after o
      → SendsOn condition taken takes failures failures_after old new n (told_then o)
  sends_more (Ok (Some next)) changed streams does shut count =
      sends_as (Ok (Some next)) does shut (Content (record { file = r.file; sent = next })) changed Part streams.0 streams.1
      (λ honest s at owed owes. paid_part s r.file r.sent next owed streams.0 owes (streams.2 honest s at))
      (λ clean honest s at. (does.ok honest s at tt).1) (λ _. count.kept) refl (λ files sends. sends)
  sends_more (Ok None) changed streams does shut count =
      sends_as (Ok None) does shut Nothing changed All streams.0 streams.1
      (λ honest s at owed owes. paid_all s r.file r.sent owed streams.0 owes (streams.2 honest s at))
      (λ clean honest s at. (does.ok honest s at tt).1) (λ _. count.kept) refl (λ files sends. sends_nothing files (Content r) sends)
  sends_more (Err fault) changed streams does shut count =
      sends_as (Err fault) does shut Broken changed BrokenOff streams.0 streams.1
      (λ honest s at owed owes. paid_broken s r.file r.sent owed streams.0 owes (streams.2 honest s at))
      (λ clean honest s at. does.err clean s at) (λ whole. absurd (whole refl)) refl (λ files sends. sends_nothing files (Content r) sends)

  pub sends_told : (o : Result (Option ℕ) StreamFault) (b : Behind) → b ≡ behind_then r o → (answer : SentOn) → answer ≡ told_then o
      → new.connections.items ≡ set old.connections.items i (record { number = kept.number; intake = kept.intake; behind = b })
      → StreamsOn (condition old.store) (condition new.store) taken takes r.file r.sent o → KeepsState (condition old.store) (condition new.store) o
      → FailsIfShut (condition old.store) (condition new.store) o → CountsFailures failures failures_after o
      → SendsOn condition taken takes failures failures_after old new n answer
  sends_told o b left answer told changed streams does shut count =
      subst (λ (x : SentOn). SendsOn condition taken takes failures failures_after old new n x) (sym told)
      (sends_more o (changed ∙ (λ j. set old.connections.items i (record { number = kept.number; intake = kept.intake; behind = left j }))) streams does shut count)

-- no request waits there
pub then_no_wait : (r : Rest) (o : Result (Option ℕ) StreamFault) → is_waiting (behind_then r o) ≡ false
then_no_wait r (Ok (Some next)) = refl
then_no_wait r (Ok None) = refl
then_no_wait r (Err fault) = refl

-- ---- by what stands behind each reply now

module _ (n : ℕ) (old new : List Connection) (b : Behind) (behinds : (m : ℕ) → behind_at new m ≡ (if m == n then b else behind_at old m)) where
  pub others_are : (m : ℕ) → m ≢ n → behind_at new m ≡ behind_at old m
  others_are m other = behinds m ∙ if_same (m == n) b (behind_at old m) (λ e. absurd (other (eqb-true m n e)))

pub owed_at : (s : State) (n : ℕ) (old new : List Connection) (b : Behind) → ((m : ℕ) → behind_at new m ≡ (if m == n then b else behind_at old m))
    → (owed : List ℕ) → IsOwed s b owed → IsOwed s (behind_at new n) owed
owed_at s n old new b behinds owed h =
    subst (λ (x : Behind). IsOwed s x owed) (sym (behinds n ∙ ap (λ (t : Bool). if t then b else behind_at old n) (eq-eqb n n refl))) h

-- ---- two tests

pub or_parts : (a b : Bool) → (a || b) ≡ false → (a ≡ false) × (b ≡ false)
or_parts true b e = cc
or_parts false b e = (refl, e)

pub either_false : (a b : Bool) → a ≡ false → b ≡ false → (a || b) ≡ false
either_false true b e f = cc
either_false false b e f = f

-- ---- a connection that is there, or not

pub not_there : (o : Option Reading) (r : Reading) → o ≡ None → o ≡ Some r → ⊥
not_there None r e f = cc f
not_there (Some x) r e f = cc e

pub some_reading : (a b : Reading) → Some a ≡ Some b → a ≡ b
some_reading a b e = cc

-- ---- other calls

nothing_if : (t : Bool) → (if t then Nothing else Nothing) ≡ Nothing
nothing_if true = refl
nothing_if false = refl

-- nothing is behind a reply of a connection that was just opened
pub behind_push : (cs : List Connection) (d : Connection) (m : ℕ) → d.behind ≡ Nothing → behind_at (cs ++ d ∷ []) m ≡ behind_at cs m
behind_push [] d m e = ap (λ (b : Behind). if d.number == m then b else Nothing) e ∙ nothing_if (d.number == m)
behind_push (c ∷ cs) d m e = ap (λ (b : Behind). if c.number == m then c.behind else b) (behind_push cs d m e)

-- an intake changes alone
pub behind_as_was : (n i : ℕ) (cs : List Connection) (c : Connection) → place_of_number n cs ≡ Some i → c ≡ get_or cs i c → (now : Reading) → (m : ℕ)
    → behind_at (set cs i (record { number = c.number; intake = now; behind = c.behind })) m ≡ behind_at cs m
behind_as_was n i cs c index item now m =
    behinds_are n i cs c c.behind index item now _ refl m
    ∙ if_same (m == n) c.behind (behind_at cs m) (λ e. sym (ap (behind_at cs) (eqb-true m n e) ∙ behind_some n i cs c index item))

-- who is not there is forgotten
pub behind_gone : (n : ℕ) (cs : List Connection) → behind_at cs n ≡ Nothing → (m : ℕ) → behind_at cs m ≡ (if m == n then Nothing else behind_at cs m)
behind_gone n cs none m = sym (if_same (m == n) Nothing (behind_at cs m) (λ e. sym (ap (behind_at cs) (eqb-true m n e) ∙ none)))

behind_below : (low high n : ℕ) (cs : List Connection) → Ascends low cs high → n < low → behind_at cs n ≡ Nothing
behind_below low high n [] a l = refl
behind_below low high n (c ∷ cs) a l =
    let more : n < c.number + 1 = omega (arith, a.0) in
    let lo : low ≤ c.number = a.0 in
    let h = behind_below (c.number + 1) high n cs a.1 more in grind (arith, nat_tests, h)

behind_remove_at : (n low high i : ℕ) (c : Connection) (cs : List Connection) (b : Bool) → b ≡ (c.number == n)
    → (if b then Some 0 else option_map suc (place_of_number n cs)) ≡ Some i → Ascends low (c ∷ cs) high → (m : ℕ)
    → ((j : ℕ) → place_of_number n cs ≡ Some j → behind_at (remove cs j) m ≡ (if m == n then Nothing else behind_at cs m))
    → behind_at (remove (c ∷ cs) i) m ≡ (if m == n then Nothing else behind_at (c ∷ cs) m)
behind_remove_at n low high zero c cs true e i a m k =
    let h = behind_below (c.number + 1) high n cs a.1 in grind (arith, nat_tests, h)
behind_remove_at n low high (suc i) c cs true e i' a m k = cc
behind_remove_at n low high zero c cs false e i' a m k = absurd (some_suc_zero (place_of_number n cs) i')
behind_remove_at n low high (suc i) c cs false e i' a m k = let h = k i (some_suc (place_of_number n cs) i i') in grind (arith, nat_tests, h)

-- a connection is removed
pub behind_remove : (n low high i : ℕ) (cs : List Connection) → place_of_number n cs ≡ Some i → Ascends low cs high
    → (m : ℕ) → behind_at (remove cs i) m ≡ (if m == n then Nothing else behind_at cs m)
behind_remove n low high i [] e a m = cc
behind_remove n low high i (c ∷ cs) e a m = behind_remove_at n low high i c cs (c.number == n) refl e a m (λ j h. behind_remove n (c.number + 1) high j cs h a.1 m)

pub some_such : (answer : Next) → (answer ≡ NoSuch → ⊥) → Some answer ≡ Some NoSuch → ⊥
some_such answer there e = let same : answer ≡ NoSuch = cc in there same
