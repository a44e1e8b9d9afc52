-- What comes of a phase, and what a connection does next, case by case.
use Rattle.std.proofs.Common.{◌&&◌, ◌≡◌, ◌⊎◌, inl, inr, Bool, false, true, refl, sym, subst, ap, ◌∙◌}
use Rattle.dep_hub.specs.declared.sent_on.SentOn.{SentOn}
use Rattle.dep_hub.specs.declared.sent_on.SentOn.TheVariants.{Part, All, Broken}
use Rattle.dep_exchange.specs.declared.arrived.Arrived.{Arrived}
use Rattle.dep_exchange.specs.declared.arrived.Arrived.TheVariants as came
use Rattle.dep_exchange.specs.declared.next.Next.{Next}
use Rattle.dep_exchange.specs.declared.next.Next.TheVariants.{More, Waiting, NoSuch}
use Rattle.dep_slot.specs.declared.connection_state.Phase.{Phase}
use Rattle.dep_slot.specs.declared.connection_state.Phase.TheVariants.{Open, Answering, Sending, SendingLast, Last, Draining, Over}
use Rattle.dep_slot.specs.declared.connection_state.NextAction.{NextAction}
use Rattle.dep_slot.specs.declared.connection_state.NextAction.TheVariants.{Flush, Send, Finish, Drain}
use Rattle.dep_slot.specs.ConnectionStates.{next_action, action_sending, is_ended, is_sending, phase_begun, SendsStill}
use Rattle.dep_slot.specs.Slots.{phase_offered, phase_answered, phase_sent}

pub not_open : (after : Phase) → after ≡ Over → after ≡ Open → ⊥
not_open after o h = absurd (let e : Over ≡ Open = sym o ∙ h in cc)

pub not_ended : (after : Phase) → after ≡ Over → is_ended after ≡ false → ⊥
not_ended after o h = absurd (let e : true ≡ false = sym (ap is_ended o) ∙ h in cc)

-- who goes on as he was, or is over, has ended where he had, and is read only where he was
pub ended_still : (before after : Phase) → (after ≡ before) ⊎ (after ≡ Over) → is_ended before ≡ true → is_ended after ≡ true
ended_still before after (inl s) e = ap is_ended s ∙ e
ended_still before after (inr o) e = ap is_ended o

pub still_same : (p : Phase) → SendsStill p p
still_same Over = inl refl
still_same p = inr (refl, λ e. let bad : p ≡ Over = e in cc)

pub sends_still : (before after : Phase) → (after ≡ before) ⊎ (after ≡ Over) → SendsStill before after
sends_still before after (inl s) = subst (λ (p : Phase). SendsStill before p) (sym s) (still_same before)
sends_still before after (inr o) = inl o

-- also once a turn begins
pub still_begun : (p : Phase) (is_shut : Bool) → SendsStill p (phase_begun p is_shut)
still_begun Open true = inr (refl, λ e. let bad : Open ≡ Over = e in cc)
still_begun p is_shut = still_same p

pub opened_still : (before after : Phase) → (after ≡ before) ⊎ (after ≡ Over) → after ≡ Open → before ≡ Open
opened_still before after (inl s) h = sym s ∙ h
opened_still before after (inr o) h = absurd (not_open after o h)

-- What holds of a connection by what it does next: who flushes owes; nothing of who is drained comes to the hub; who is
-- told that nothing more is sent is read no more, and sent no content; a content is sent on where one is sent, and
-- where no request waits for it only where nothing is owed.
abbrev Fits : NextAction → Phase → (a owes : Bool) → Type 0
Fits Flush p a owes = owes ≡ true
Fits Drain p a owes = is_ended p ≡ true
Fits Finish p a owes = SendsStill p Draining
Fits Send p a owes = (is_sending p ≡ true) × (a ≡ false → owes ≡ false)
Fits next p a owes = Unit {0}

fits_sending : (p : Phase) (a owes w : Bool) → is_sending p ≡ true → Fits (action_sending a owes w) p a owes
fits_sending p true owes w h = (h, λ e. let bad : true ≡ false = e in cc)
fits_sending p false true true h = refl
fits_sending p false true false h = tt
fits_sending p false false w h = (h, λ e. refl)

fits : (p : Phase) (a owes r w : Bool) → Fits (next_action p a owes r w) p a owes
fits Over a owes r w = tt
fits Sending a owes r w = fits_sending Sending a owes w refl
fits SendingLast a owes r w = fits_sending SendingLast a owes w refl
fits p a true r true = refl
fits p a true r false = tt
fits Open a false true w = tt
fits Open a false false w = tt
fits Answering a false r w = tt
fits Last a false r w = inr (refl, λ e. let bad : Last ≡ Over = e in cc)
fits Draining a false true w = refl
fits Draining a false false w = tt

fits_next : (p : Phase) (a owes r w : Bool) (next : NextAction) → next_action p a owes r w ≡ next → Fits next p a owes
fits_next p a owes r w next h = subst (λ (d : NextAction). Fits d p a owes) h (fits p a owes r w)

pub sends_owed : (p : Phase) (a owes r w : Bool) → next_action p a owes r w ≡ Flush → owes ≡ true
sends_owed p a owes r w h = fits_next p a owes r w Flush h

pub drains_ended : (p : Phase) (a owes r w : Bool) → next_action p a owes r w ≡ Drain → is_ended p ≡ true
drains_ended p a owes r w h = fits_next p a owes r w Drain h

pub finishes_last : (p : Phase) (a owes r w : Bool) → next_action p a owes r w ≡ Finish → SendsStill p Draining
finishes_last p a owes r w h = fits_next p a owes r w Finish h

pub sends_content : (p : Phase) (a owes r w : Bool) → next_action p a owes r w ≡ Send → is_sending p ≡ true
sends_content p a owes r w h = let both : Fits Send p a owes = fits_next p a owes r w Send h in both.0

pub sends_unowed : (p : Phase) (a owes r w : Bool) → next_action p a owes r w ≡ Send → a ≡ false → owes ≡ false
sends_unowed p a owes r w h = let both : Fits Send p a owes = fits_next p a owes r w Send h in both.1

-- who has ended has ended once some of a content was sent, and is over only where it was
pub ended_sent : (p : Phase) (answer : SentOn) → is_ended p ≡ true → is_ended (phase_sent p answer) ≡ true
ended_sent p Part e = e
ended_sent p Broken e = refl
ended_sent Sending All e = absurd (let bad : false ≡ true = e in cc)
ended_sent p All e = refl

pub over_sent : (p : Phase) (answer : SentOn) → phase_sent p answer ≡ Over → p ≡ Over
over_sent p Part e = e
over_sent p Broken e = absurd (let bad : Last ≡ Over = e in cc)
over_sent Sending All e = absurd (let bad : Answering ≡ Over = e in cc)
over_sent p All e = absurd (let bad : Last ≡ Over = e in cc)

-- who is read or answered has not ended
pub not_yet : (before after p : Phase) → before ≡ p → is_ended p ≡ false → is_ended before ≡ true → is_ended after ≡ true
not_yet before after p b going e = absurd (let bad : true ≡ false = sym e ∙ (ap is_ended b ∙ going) in cc)

-- a connection is over once a piece was offered, or an item answered, only where the hub doesn't know it
pub over_offered : (answer : Arrived) (after : Phase) → after ≡ phase_offered answer → after ≡ Over → answer ≡ came.NoSuch
over_offered came.Open after p h = absurd (let bad : Answering ≡ Over = sym p ∙ h in cc)
over_offered came.NoSuch after p h = refl
over_offered arrived after p h = absurd (let bad : Last ≡ Over = sym p ∙ h in cc)

pub over_answered : (next : Next) (sends : Bool) (after : Phase) → after ≡ phase_answered next sends → after ≡ Over → next ≡ NoSuch
over_answered NoSuch sends after p h = refl
over_answered More true after p h = absurd (let bad : Sending ≡ Over = sym p ∙ h in cc)
over_answered More false after p h = absurd (let bad : Answering ≡ Over = sym p ∙ h in cc)
over_answered Waiting true after p h = absurd (let bad : Sending ≡ Over = sym p ∙ h in cc)
over_answered Waiting false after p h = absurd (let bad : Open ≡ Over = sym p ∙ h in cc)
over_answered next true after p h = absurd (let bad : SendingLast ≡ Over = sym p ∙ h in cc)
over_answered next false after p h = absurd (let bad : Last ≡ Over = sym p ∙ h in cc)

-- a turn begins once
pub begun_once : (p : Phase) (is_shut : Bool) → phase_begun (phase_begun p is_shut) is_shut ≡ phase_begun p is_shut
begun_once Open true = refl
begun_once Open false = refl
begun_once p is_shut = refl

-- and nobody is over by that
pub over_begun : (p : Phase) (is_shut : Bool) → phase_begun p is_shut ≡ Over → p ≡ Over
over_begun Open true h = absurd (let bad : Last ≡ Over = h in cc)
over_begun p is_shut h = h

-- a content is sent to whom one was sent
pub sends_begun : (p : Phase) (is_shut : Bool) → is_sending (phase_begun p is_shut) ≡ is_sending p
sends_begun Open true = refl
sends_begun p is_shut = refl

-- whether a request waits for a content tells only of who is sent one
pub asks_sending : (p : Phase) (a owes r w : Bool) → next_action p (is_sending p && a) owes r w ≡ next_action p a owes r w
asks_sending Over a owes r w = refl
asks_sending Sending a owes r w = refl
asks_sending SendingLast a owes r w = refl
asks_sending p a true r w = refl
asks_sending p a false r w = refl

-- what a connection does next to which a content is sent
pub sending_action : (p : Phase) (is_shut a owes r w : Bool) → is_sending p ≡ true → next_action (phase_begun p is_shut) a owes r w ≡ action_sending a owes w
sending_action Sending is_shut a owes r w h = refl
sending_action SendingLast is_shut a owes r w h = refl
sending_action p is_shut a owes r w h = absurd (let bad : false ≡ true = h in cc)

pub sent_unless : (a owes w : Bool) → (action_sending a owes w ≡ Send) ⊎ ((a ≡ false) × (owes ≡ true))
sent_unless true owes w = inl refl
sent_unless false true w = inr (refl, refl)
sent_unless false false w = inl refl
