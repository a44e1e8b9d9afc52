-- What is sent over an archive that a fault shut, and what it leaves.
use Rattle.std.proofs.Common.{◌≡◌, ◌≢◌, inl, inr, ℕ, suc, List, [], ◌++◌, refl, sym, ap, subst}
use Rattle.std.proofs.lemmas.List.{append-nil}
use Rattle.dep_types.specs.Conditions.{Condition}
use Rattle.dep_types.specs.declared.store_fault.StoreFault.{StoreFault}
use Rattle.dep_types.specs.declared.store_fault.StoreFault.TheVariants.{Store, Memory}
use Rattle.dep_message.specs.Stream.{Item, Fault, Continue, Request}
use Rattle.dep_exchange.specs.Machine.{SendsUpTo, all, cut}
use Rattle.dep_exchange.specs.Sending.{IsSentUpTo, Outside, Passes, fault_reply}
use Rattle.dep_exchange.specs.Serving.{IsAnsweredShut, OnlyContinues, answer_after}
use Rattle.dep_exchange.specs.Shut.{LeavesNoMore, IfShut, IsFixed, EndsFixed, gives_up, cuts_continue, SendsFixed}
use Rattle.dep_exchange.specs.declared.arrived.Arrived.{Arrived}
use Rattle.dep_exchange.specs.declared.arrived.Arrived.TheVariants.{Open as StaysOpen, Closed, Cut, NoSuch}
use Rattle.dep_exchange.specs.declared.sending.Answered.{Answered}
use Rattle.dep_exchange.specs.declared.sending.Answered.TheVariants.{Sent, GaveUp, CutShort}

-- ---- what a crash leaves

pub leaves_same : (c : Condition) → LeavesNoMore c c
leaves_same c image h = (image, h, λ s. ((λ x. x), λ x. x))

pub leaves_both : (a b c : Condition) → LeavesNoMore a b → LeavesNoMore b c → LeavesNoMore a c
leaves_both a b c p q image h =
    let later = q image h in
    let first = p later.0 later.1 in
    (first.0, first.1, λ s. ((λ x. (later.2 s).0 ((first.2 s).0 x)), λ x. (first.2 s).1 ((later.2 s).1 x)))

-- what was shut is shut later
pub shut_both : (P Q : Type 0) (old mid new : Outside) {xs ys : List ℕ} → Passes old mid xs → Passes mid new ys
    → IfShut old.store mid.store P → IfShut mid.store new.store Q → IfShut old.store new.store (P × Q)
shut_both P Q old mid new p q first then disk shut = (first (q.honest disk) shut, then disk (λ is_open. shut (p.clean is_open)))

-- ---- what is sent

-- a fixed reply is sent up to its end or cut
pub sends_up_to : (whole sent : List ℕ) (answer : Answered) → IsSentUpTo whole sent answer → SendsUpTo whole sent (answer_after answer)
sends_up_to whole sent Sent h = absurd h
sends_up_to whole sent GaveUp h = subst (λ bytes. SendsUpTo whole bytes Closed) (sym h) all
sends_up_to whole sent CutShort h = cut h

-- a connection that is cut was sent a part
pub was_cut : (answer : Answered) → answer_after answer ≡ Cut → answer ≡ CutShort
was_cut Sent e = cc
was_cut GaveUp e = cc
was_cut CutShort e = refl

-- and then the connection has ended
pub ends_sent : (whole sent : List ℕ) → SendsUpTo whole sent StaysOpen → ⊥
ends_sent whole sent h = elim h [ ]

none_sent : (whole sent : List ℕ) → SendsUpTo whole sent NoSuch → ⊥
none_sent whole sent h = elim h [ ]

-- over a connection that is there
pub there_sent : {whole sent : List ℕ} {answer : Arrived} → SendsUpTo whole sent answer → answer ≢ NoSuch
there_sent {whole} {sent} h e = none_sent whole sent (subst (λ a. SendsUpTo whole sent a) e h)

pub is_fixed : (fault : StoreFault) → IsFixed (fault_reply fault)
is_fixed Store = inr refl
is_fixed Memory = inl refl

-- only what tells a client to go on is answered, and no fixed reply is sent
pub continues_more : (item : Item) (front sent : List ℕ) → OnlyContinues front → IsAnsweredShut item sent Sent → OnlyContinues (front ++ sent)
continues_more Continue front sent so_far h = (suc so_far.0, λ i. so_far.1 i ++ h i)
continues_more (Fault r head_only) front sent so_far h = absurd h.2
continues_more (Request m) front sent so_far h = absurd h.2

-- the last item
pub ends_fixed : (item : Item) (sent : List ℕ) (answer : Answered) → answer ≢ Sent → IsAnsweredShut item sent answer → EndsFixed sent (answer_after answer)
ends_fixed item sent Sent never h = absurd (never refl)
ends_fixed Continue sent GaveUp never h = absurd h
ends_fixed Continue sent CutShort never h = cuts_continue h
ends_fixed (Fault r head_only) sent GaveUp never h = gives_up h.1 (sends_up_to h.0 sent GaveUp h.2)
ends_fixed (Fault r head_only) sent CutShort never h = gives_up h.1 (sends_up_to h.0 sent CutShort h.2)
ends_fixed (Request m) sent GaveUp never h = gives_up h.1 (sends_up_to h.0 sent GaveUp h.2)
ends_fixed (Request m) sent CutShort never h = gives_up h.1 (sends_up_to h.0 sent CutShort h.2)

pub sends_behind : (front last : List ℕ) (answer : Arrived) → OnlyContinues front → EndsFixed last answer → SendsFixed (front ++ last) answer
sends_behind front last answer so_far ends = record { times = so_far.0; last = last; joined = ap (λ (l : List ℕ). l ++ last) so_far.1; ends = ends }

pub sends_no_more : (sent : List ℕ) (answer : Arrived) → EndsFixed [] answer → OnlyContinues sent → SendsFixed sent answer
sends_no_more sent answer ends so_far = subst (λ (l : List ℕ). SendsFixed l answer) (append-nil sent) (sends_behind sent [] answer so_far ends)
