-- Each item that is taken leaves less to read.
use Rattle.std.proofs.Common.{◌≡◌, ℕ, ◌+◌, ◌<◌, ◌&&◌, not, Bool, true, false, List, ◌++◌, length, if◌then◌else◌, Some, refl, sym, ap, subst, ◌∙◌, length-append, arith}
use Rattle.dep_types.specs.declared.refusal.Refusal.{Refusal}
use Rattle.dep_message.specs.Giving.{GivesStep, Takes}
use Rattle.dep_message.specs.Heads.{closes}
use Rattle.dep_message.specs.Places.{Place, Open, Shut, Reading, left_to_read, shut_reading}
use Rattle.dep_message.specs.Stream.{Continue, Fault, Request}
use Rattle.dep_message.specs.Working.{FindsFirst, kept_bytes, reading_of}
use Rattle.dep_message.specs.declared.intake.Standing.{Standing}
use Rattle.dep_message.specs.declared.intake.Standing.TheVariants.{Live}
use Rattle.dep_message.specs.declared.intake.Step.TheVariants as S
use Rattle.dep_message.specs.declared.message.Message.{Message}
use Rattle.dep_message.specs.declared.progress.Found.TheVariants as F
use Rattle.dep_message.specs.declared.unparsed.Unparsed.{Unparsed}

pub not_reported : (continued awaits : Bool) → (not continued && awaits) ≡ true → continued ≡ false
not_reported false awaits e = refl
not_reported true awaits e = absurd (cc e)

pub some_left : (reported : Bool) (n : ℕ) → 0 < n + (if reported then 1 else 2)
some_left true n = omega arith
some_left false n = omega arith

pub less_reported : (n : ℕ) → n + n + 1 < n + n + 2
less_reported n = omega arith

pub less_behind : (ends reported : Bool) (text behind : List ℕ) → 0 < length text
    → left_to_read (if ends then Shut else Open false behind) < length (text ++ behind) + length (text ++ behind) + (if reported then 1 else 2)
less_behind true reported text behind some = some_left reported (length (text ++ behind) + length (text ++ behind))
less_behind false true text behind some = omega (arith, length-append text behind)
less_behind false false text behind some = omega (arith, length-append text behind)

-- the reading of live bytes
live_was : (old : Reading) (standing : Standing) (unparsed : Unparsed) → standing ≡ Live → reading_of standing unparsed ≡ old → reading_of Live unparsed ≡ old
live_was old standing unparsed live was = ap (λ (s : Standing). reading_of s unparsed) (sym live) ∙ was

pub gives_continue : (old : Reading) (standing : Standing) (unparsed new : Unparsed) → standing ≡ Live → reading_of standing unparsed ≡ old
    → FindsFirst unparsed.limit unparsed.continued (kept_bytes unparsed) new (Some F.Continue) → GivesStep old (reading_of standing new) S.Continue100
gives_continue old standing unparsed new live was f =
    let bytes = kept_bytes unparsed in
    let place_is : Open new.continued (kept_bytes new) ≡ Open true bytes = λ i. Open (f.1.continued_is i) (f.1.bytes_are i) in
    let unsent = not_reported unparsed.continued _ f.0.3.has_head.due_is in
    subst (λ (o : Reading). Takes o (reading_of standing new) Continue) (live_was old standing unparsed live was)
    (subst (λ (s : Standing). Takes (reading_of Live unparsed) (reading_of s new) Continue) (sym live) (record {
      first = record { text = f.0.0; behind = f.0.1; whole = f.0.2; spelled = f.0.3; goes_on = place_is ∙ ap (Open true) f.0.2 };
      limit = f.1.limit_is;
      dead = refl;
      less =
          subst (λ (p : Place). left_to_read p < left_to_read (Open unparsed.continued bytes)) (sym place_is)
          (subst (λ (b : Bool). left_to_read (Open true bytes) < left_to_read (Open b bytes)) (sym unsent) (less_reported (length bytes)));
    }))

pub gives_fault : (old after : Reading) (standing : Standing) (unparsed new : Unparsed) (refusal : Refusal) (head_only : Bool) → standing ≡ Live → reading_of standing unparsed ≡ old
    → FindsFirst unparsed.limit unparsed.continued (kept_bytes unparsed) new (Some (F.Fault refusal head_only)) → after ≡ shut_reading (reading_of standing new)
    → GivesStep old after (S.Refused refusal head_only)
gives_fault old after standing unparsed new refusal head_only live was f after_is =
    subst (λ (o : Reading). Takes o after (Fault refusal head_only)) (live_was old standing unparsed live was)
    (subst (λ (a : Reading). Takes (reading_of Live unparsed) a (Fault refusal head_only))
    (sym (after_is ∙ ap (λ (s : Standing). shut_reading (reading_of s new)) live)) (record {
      first = record { text = f.0.0; behind = f.0.1; whole = f.0.2; spelled = f.0.3; goes_on = refl };
      limit = f.1;
      dead = refl;
      less = some_left unparsed.continued (length (kept_bytes unparsed) + length (kept_bytes unparsed));
    }))

-- the reading behind a request
abbrev after_request : (last : Bool) → Unparsed → Reading
after_request true new = record { limit = new.limit; place = Shut; is_dead = false }
after_request false new = reading_of Live new

request_taken : (last : Bool) (limit : ℕ) (continued : Bool) (bytes : List ℕ) (new : Unparsed) (m : Message) → FindsFirst limit continued bytes new (Some (F.Message m))
    → last ≡ closes m.head → Takes (record { limit = limit; place = Open continued bytes; is_dead = false }) (after_request last new) (Request m)
request_taken true limit continued bytes new m f last_is = record {
  first = record { text = f.0; behind = f.1; whole = f.2; spelled = f.3; goes_on = ap (λ (b : Bool). if b then Shut else Open false f.1) last_is };
  limit = f.5.limit_is;
  dead = refl;
  less = some_left continued (length bytes + length bytes);
}
request_taken false limit continued bytes new m f last_is =
    let place_is : Open new.continued (kept_bytes new) ≡ Open false f.1 = λ i. Open (f.5.continued_is i) (f.5.bytes_are i) in
    record {
      first = record { text = f.0; behind = f.1; whole = f.2; spelled = f.3; goes_on = place_is ∙ ap (λ (b : Bool). if b then Shut else Open false f.1) last_is };
      limit = f.5.limit_is;
      dead = refl;
      less =
          subst (λ (p : Place). left_to_read p < left_to_read (Open continued bytes)) (sym place_is)
          (subst (λ (l : List ℕ). left_to_read (Open false f.1) < left_to_read (Open continued l)) (sym f.2) (less_behind false continued f.0 f.1 f.4));
    }

after_is : (last : Bool) (standing : Standing) (new : Unparsed) (after : Reading) → standing ≡ Live
    → after ≡ (if last then record (reading_of standing new) { place = Shut; is_dead = false } else reading_of standing new) → after ≡ after_request last new
after_is true standing new after live e = e ∙ ap (λ (s : Standing). record (reading_of s new) { place = Shut; is_dead = false }) live
after_is false standing new after live e = e ∙ ap (λ (s : Standing). reading_of s new) live

pub gives_request : (old after : Reading) (standing : Standing) (unparsed new : Unparsed) (m : Message) (last : Bool) → standing ≡ Live → reading_of standing unparsed ≡ old
    → FindsFirst unparsed.limit unparsed.continued (kept_bytes unparsed) new (Some (F.Message m)) → last ≡ closes m.head
    → after ≡ (if last then record (reading_of standing new) { place = Shut; is_dead = false } else reading_of standing new)
    → GivesStep old after (S.Message m last)
gives_request old after standing unparsed new m last live was f last_is is = (
  subst (λ (o : Reading). Takes o after (Request m)) (live_was old standing unparsed live was)
      (subst (λ (a : Reading). Takes (reading_of Live unparsed) a (Request m)) (sym (after_is last standing new after live is))
      (request_taken last unparsed.limit unparsed.continued (kept_bytes unparsed) new m f last_is)),
  last_is,
)

-- behind the last request nothing is read, and behind another the rest is
pub behind_last : (last : Bool) (standing : Standing) (new : Unparsed) (after : Reading) → last ≡ true
    → after ≡ record (reading_of standing new) { place = Shut; is_dead = false }
    → after ≡ (if last then record (reading_of standing new) { place = Shut; is_dead = false } else reading_of standing new)
behind_last true standing new after t e = e
behind_last false standing new after t e = absurd (cc t)

pub behind_other : (last : Bool) (standing : Standing) (new : Unparsed) (after : Reading) → last ≡ false → after ≡ reading_of standing new
    → after ≡ (if last then record (reading_of standing new) { place = Shut; is_dead = false } else reading_of standing new)
behind_other true standing new after t e = absurd (cc t)
behind_other false standing new after t e = e
