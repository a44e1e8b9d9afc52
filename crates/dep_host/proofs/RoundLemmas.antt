-- The rounds of a host that is shut.
use Rattle.std.proofs.Common.{◌≡◌, inl, inr, ◌≤◌, ◌+◌, ◌-◌, ℕ, false, List, [], ◌∷◌, ◌++◌, Option, None, Some, is_some, IfSome, All, Contains, length, take, get_or, refl, sym, ap, subst, ◌∙◌, arith}
use Rattle.std.proofs.lemmas.List.{get_or_append_left, get_or-append_right, length-append}
use Rattle.std.proofs.Math.Seq.{take-append_seam}
use Rattle.std.proofs.lemmas.List.Elements.{All-nil, All-append, All-take, All-from_get_or, All-from_recursion, Contains-append_left, Contains-append_right}
use Rattle.std.proofs.lemmas.Bool.{le-ltb}
use Rattle.std.specs.List.{AllByRecursion}
use Rattle.std.specs.List.Sorted.{IsNonDecreasing}
use Rattle.dep_host.specs.declared.ending.Cause.{Cause}
use Rattle.dep_host.specs.declared.ending.Shut.{Shut}
use Rattle.dep_slot.specs.declared.limits.Limits.{Limits}
use Rattle.dep_slot.specs.declared.slot.Time.{Time}
use Rattle.dep_host.specs.declared.events.Event.{Event}
use Rattle.dep_host.specs.declared.events.Event.TheVariants.{Ready, Client, Round, Stop, End}
use Rattle.dep_host.specs.declared.serving.Ended.{Ended}
use Rattle.dep_host.specs.declared.serving.Ended.TheVariants as ended
use Rattle.dep_host.specs.Coming.{seconds_of}
use Rattle.dep_slot.specs.ConnectionStates.{is_past}
use Rattle.dep_host.specs.Rounds.{IsReported, gone_on, EndsInTime, is_overdue}

-- an event has one second at most
pub one_second : {R K S : Type 0} (event : Event R K S) → length (seconds_of event) ≤ 1
one_second (Ready at r w) = omega arith
one_second (Client client) = omega arith
one_second (Round time) = omega arith
one_second (Stop second) = omega arith
one_second End = omega arith

not_past : (since second : ℕ) (limits : Limits) → second ≤ since → is_past since second limits ≡ false
not_past since second limits le = le-ltb limits.idle_seconds (second - since) (omega (arith, le))

-- no round before the one in which it was shut is later, since seconds don't go back
none_past : (xs ys : List ℕ) (since : ℕ) (limits : Limits) → IsNonDecreasing (xs ++ ys) → Contains ys since → All (λ second. is_past since second limits ≡ false) xs
none_past xs ys since limits rises at = All-from_get_or (λ second. is_past since second limits ≡ false) xs since (λ i lt.
    let left : get_or (xs ++ ys) i since ≡ get_or xs i since = get_or_append_left xs ys since i lt in
    let place : (length xs + at.0) - length xs ≡ at.0 = omega arith in
    let right : get_or (xs ++ ys) (length xs + at.0) since ≡ since =
    get_or-append_right xs ys (length xs) (length xs + at.0) since refl (omega arith) ∙ (ap (λ (n : ℕ). get_or ys n since) place ∙ at.2) in
    let long = length-append xs ys in
    let within = at.1 in
    let le : get_or (xs ++ ys) i since ≤ get_or (xs ++ ys) (length xs + at.0) since = rises i (length xs + at.0) since (omega (arith, lt)) (omega (arith, within, long)) in
    not_past since (get_or xs i since) limits (omega (arith, le, left, right)))

-- the rounds of before were in time also by when it was shut since
earlier : (mid last : Option Shut) (limits : Limits) (xs ys : List ℕ) → IsReported mid last ys → IsNonDecreasing (xs ++ ys) → All (λ second. is_overdue mid second limits ≡ false) xs
    → All (λ second. is_overdue last second limits ≡ false) xs
earlier mid last limits xs ys (inl e) rises h = subst (λ (o : Option Shut). All (λ second. is_overdue o second limits ≡ false) xs) (sym e) h
earlier mid None limits xs ys (inr t) rises h = All-from_get_or (λ second. is_overdue None second limits ≡ false) xs 0 (λ i lt. refl)
earlier mid (Some shut) limits xs ys (inr t) rises h = none_past xs ys shut.second limits rises t.1

rises_front : (xs ys : List ℕ) → IsNonDecreasing (xs ++ ys) → IsNonDecreasing xs
rises_front xs ys rises = λ i j d le lt.
    let a : get_or (xs ++ ys) i d ≡ get_or xs i d = get_or_append_left xs ys d i (omega (arith, le, lt)) in
    let b : get_or (xs ++ ys) j d ≡ get_or xs j d = get_or_append_left xs ys d j lt in
    let long = length-append xs ys in
    let both : get_or (xs ++ ys) i d ≤ get_or (xs ++ ys) j d = rises i j d le (omega (arith, lt, long)) in
    let all : get_or xs i d ≤ get_or xs j d = omega (arith, a, b, both) in
    all

reported_left : (o : Option Shut) (xs ys : List ℕ) → IfSome o (λ shut. Contains xs shut.second) → IfSome o (λ shut. Contains (xs ++ ys) shut.second)
reported_left None xs ys h = tt
reported_left (Some shut) xs ys h = Contains-append_left xs ys shut.second h

reported_right : (o : Option Shut) (xs ys : List ℕ) → IfSome o (λ shut. Contains ys shut.second) → IfSome o (λ shut. Contains (xs ++ ys) shut.second)
reported_right None xs ys h = tt
reported_right (Some shut) xs ys h = Contains-append_right xs ys shut.second h

-- it was shut in the one stretch or the other
reported_on : (first mid last : Option Shut) (xs ys : List ℕ) → IsReported first mid xs → IsReported mid last ys → IsReported first last (xs ++ ys)
reported_on first mid last xs ys (inl e) (inl f) = inl (f ∙ e)
reported_on first mid last xs ys (inl e) (inr t) = inr (subst (λ (o : Option Shut). is_some o ≡ false) e t.0, reported_right last xs ys t.1)
reported_on first mid last xs ys (inr s) (inl f) = inr (s.0, subst (λ (o : Option Shut). IfSome o (λ shut. Contains (xs ++ ys) shut.second)) (sym f) (reported_left mid xs ys s.1))
reported_on first mid last xs ys (inr s) (inr t) = inr (s.0, reported_right last xs ys t.1)

-- all rounds but one that it ends in are in time
in_time_on : (P : ℕ → Type 0) (end : Ended) (xs ys : List ℕ) → length ys ≤ 1 → All P xs → (((why : Cause) → end ≡ ended.Shut why → ⊥) → AllByRecursion P ys) → All P (gone_on end (xs ++ ys))
in_time_on P ended.Events xs ys short h k = All-append P xs ys h (All-from_recursion P ys (k (λ why e. let bad : ended.Events ≡ ended.Shut why = e in cc)))
in_time_on P ended.Spent xs ys short h k = All-append P xs ys h (All-from_recursion P ys (k (λ why e. let bad : ended.Spent ≡ ended.Shut why = e in cc)))
in_time_on P (ended.Shut why) xs [] short h k = All-take P (length (xs ++ []) - 1) (xs ++ []) (All-append P xs [] h (All-nil P))
in_time_on P (ended.Shut why) xs (y ∷ []) short h k =
    let long = length-append xs (y ∷ []) in
    let one : length (y ∷ []) ≡ 1 = refl in
    let n : length (xs ++ y ∷ []) - 1 ≡ length xs = omega (arith, long, one) in
    subst (λ (l : List ℕ). All P l) (sym (ap (λ (m : ℕ). take m (xs ++ y ∷ [])) n ∙ take-append_seam xs (y ∷ []))) h
in_time_on P (ended.Shut why) xs (y ∷ (z ∷ ys)) short h k =
    let long : length (y ∷ (z ∷ ys)) ≡ length (y ∷ (z ∷ [])) + length ys = length-append (y ∷ (z ∷ [])) ys in
    let two : length (y ∷ (z ∷ [])) ≡ 2 = refl in
    absurd (let no : ⊥ = omega (arith, short, long, two) in no)

pub all_round : {R K S : Type 0} (P : ℕ → Type 0) (event : Event R K S) (time : Time) → event ≡ Round time → P time.second → AllByRecursion P (seconds_of event)
all_round {R = R} {K = K} {S = S} P event time is h = subst (λ (e : Event R K S). AllByRecursion P (seconds_of e)) (sym is) (h, tt)

pub all_stop : {R K S : Type 0} (P : ℕ → Type 0) (event : Event R K S) (second : ℕ) → event ≡ Stop second → P second → AllByRecursion P (seconds_of event)
all_stop {R = R} {K = K} {S = S} P event second is h = subst (λ (e : Event R K S). AllByRecursion P (seconds_of e)) (sym is) (h, tt)

-- no round so far
pub rounds_begin : (shut : Option Shut) (limits : Limits) → EndsInTime [] shut shut limits ended.Spent
rounds_begin shut limits = record {
  is_reported = inl refl;
  in_time = λ rises. All-nil (λ second. is_overdue shut second limits ≡ false);
}

-- an event more
pub rounds_go_on : (xs ys : List ℕ) (first mid last : Option Shut) (was limits : Limits) (end : Ended)
    → EndsInTime xs first mid was ended.Spent → IsReported mid last ys → length ys ≤ 1 → limits ≡ was
    → (((why : Cause) → end ≡ ended.Shut why → ⊥) → AllByRecursion (λ second. is_overdue last second limits ≡ false) ys)
    → EndsInTime (xs ++ ys) first last limits end
rounds_go_on xs ys first mid last was limits end it reported short same now =
    let s : EndsInTime xs first mid limits ended.Spent = subst (λ (l : Limits). EndsInTime xs first mid l ended.Spent) (sym same) it in
    record {
      is_reported = reported_on first mid last xs ys s.is_reported reported;
      in_time = λ rises. in_time_on (λ second. is_overdue last second limits ≡ false) end xs ys short
          (earlier mid last limits xs ys reported rises (s.in_time (rises_front xs ys rises))) now;
    }
