-- Where the text of an item ends in the bytes of a stream: behind it no item is complete, and where none was complete before
-- some bytes came, it ends in these.
use Rattle.std.proofs.Common.{◌≡◌, inl, inr, ℕ, ◌<◌, Bool, true, false, not, ◌&&◌, nat_lt, List, [], ◌∷◌, ◌++◌, if◌then◌else◌, refl, sym, ap, subst, ◌∙◌, append_assoc, arith}
use Rattle.std.proofs.lemmas.List.{append-nil}
use Rattle.std.proofs.lemmas.Bool.Decides.{nat_tests}
use Rattle.dep_head.specs.Head.{HeadParts, head_end}
use Rattle.dep_body.specs.Body.{IsPartOfBody}
use Rattle.dep_body.specs.declared.frame.Framing.{Framing}
use Rattle.dep_body.specs.declared.frame.Framing.TheVariants.{Empty, Length, Chunked}
use Rattle.dep_message.specs.Heads.{closes, awaits_continue}
use Rattle.dep_message.specs.Places.{Place, Open, Shut, place_with}
use Rattle.dep_message.specs.Stream.{Item, Fault, Continue, Request, after_item, IsItemText, First, FirstAt, Waits}
use Rattle.dep_message.proofs.Chunks.{nothing_is_part}
use Rattle.dep_message.proofs.OneReading.{waits_none}

pub place_nothing : (p : Place) → place_with p [] ≡ p
place_nothing (Open continued rest) = ap (λ bytes. Open continued bytes) (append-nil rest)
place_nothing Shut = refl

pub place_twice : (p : Place) (a b : List ℕ) → place_with (place_with p a) b ≡ place_with p (a ++ b)
place_twice (Open continued rest) a b = ap (λ bytes. Open continued bytes) (append_assoc rest a b)
place_twice Shut a b = refl

behind_if : (b : Bool) (behind : List ℕ) → (if b then Shut else Open false behind) ≡ place_with (if b then Shut else Open false []) behind
behind_if true behind = refl
behind_if false behind = refl

-- behind an item stands what stands behind its text alone, with the bytes behind that
pub after_text : (item : Item) (text behind : List ℕ) → after_item item text behind ≡ place_with (after_item item text []) behind
after_text (Fault r b) text behind = refl
after_text Continue text behind = ap (λ bytes. Open true (bytes ++ behind)) (sym (append-nil text))
after_text (Request m) text behind = behind_if (closes m.head) behind

waits_if : (limit : ℕ) (b : Bool) → Waits limit (if b then Shut else Open false [])
unfolding head_end
waits_if limit true = tt
waits_if limit false = inl (refl, omega arith)

no_body : (b : Bool) → b && false ≡ true → ⊥
no_body true e = cc
no_body false e = cc

some_body : (b : Bool) (n : ℕ) → b && nat_lt 0 n ≡ true → 0 < n
some_body true n e = grind (arith, nat_tests)
some_body false n e = cc

-- whoever waits to be told has a body to send
awaited : (limit : ℕ) (head : HeadParts) (frame : Framing) → awaits_continue head frame ≡ true → IsPartOfBody limit frame []
unfolding awaits_continue
awaited limit head Empty e = absurd (no_body _ e)
awaited limit head (Length n) e = some_body _ n e
awaited limit head Chunked e = nothing_is_part limit

due_awaits : (continued : Bool) (awaits : Bool) → not continued && awaits ≡ true → awaits ≡ true
due_awaits true awaits e = cc
due_awaits false awaits e = e

-- behind the text of an item no item is complete
pub waits_after : (limit : ℕ) (continued : Bool) (text : List ℕ) (item : Item) → IsItemText limit continued text item → Waits limit (after_item item text [])
waits_after limit continued text (Fault r b) t = tt
waits_after limit continued text Continue t =
    subst (λ bytes. Waits limit (Open true bytes)) (sym (append-nil text))
    (inr (record {
      head = t.head;
      frame = t.frame;
      behind = [];
      has_head = record { front = t.has_head.front; whole = t.has_head.whole; is_head = t.has_head.is_head; framed = t.has_head.framed; due_is = refl };
      is_part = awaited limit t.head t.frame (due_awaits continued (awaits_continue t.head t.frame) t.has_head.due_is);
    }))
waits_after limit continued text (Request m) t = waits_if limit (closes m.head)

-- two ways to cut bytes: the second front goes on behind the first, or the first behind the second
data Cuts (a b c d : List ℕ) : Type 0 where
  longer : (p : List ℕ) → c ≡ a ++ p → b ≡ p ++ d → Cuts a b c d
  shorter : (p : List ℕ) → a ≡ c ++ p → Cuts a b c d

cuts_on : (x y : ℕ) (a b c d : List ℕ) → x ≡ y → Cuts a b c d → Cuts (x ∷ a) b (y ∷ c) d
cuts_on x y a b c d e (longer p f g) = longer p (λ i. sym e i ∷ f i) g
cuts_on x y a b c d e (shorter p f) = shorter p (λ i. e i ∷ f i)

head_same : {x y : ℕ} {xs ys : List ℕ} → x ∷ xs ≡ y ∷ ys → x ≡ y
head_same e = cc

tail_same : {x y : ℕ} {xs ys : List ℕ} → x ∷ xs ≡ y ∷ ys → xs ≡ ys
tail_same e = cc

cuts : (a b c d : List ℕ) → a ++ b ≡ c ++ d → Cuts a b c d
cuts [] b c d e = longer c refl e
cuts (x ∷ a) b [] d e = shorter (x ∷ a) refl
cuts (x ∷ a) b (y ∷ c) d e = cuts_on x y a b c d (head_same e) (cuts a b c d (tail_same e))

-- the first item at a place with bytes more, where none was complete without: its text ends in these
-- bytes
pub record Ending (limit : ℕ) (head_only : Place) (held : List ℕ) (item : Item) (next : Place) : Type 0 where
  pub part : List ℕ
  pub rest : List ℕ
  pub at : Place
  pub whole : held ≡ part ++ rest
  pub first : FirstAt limit (place_with head_only part) item at
  pub waits : Waits limit at
  pub goes_on : next ≡ place_with at rest

ending_by : (limit : ℕ) (continued : Bool) (had held : List ℕ) (item : Item) (next : Place) → Waits limit (Open continued had)
    → (f : First limit continued (had ++ held) item next) → Cuts had held f.text f.behind → Ending limit (Open continued had) held item next
ending_by limit continued had held item next w f (longer p e r) = record {
  part = p;
  rest = f.behind;
  at = after_item item f.text [];
  whole = r;
  first = record { text = f.text; behind = []; whole = sym e ∙ sym (append-nil f.text); spelled = f.spelled; goes_on = refl };
  waits = waits_after limit continued f.text item f.spelled;
  goes_on = f.goes_on ∙ after_text item f.text f.behind;
}
ending_by limit continued had held item next w f (shorter p e) =
    absurd (waits_none limit (Open continued had) (after_item item f.text p) item w
    (record { text = f.text; behind = p; whole = e; spelled = f.spelled; goes_on = refl }))

pub ending : (limit : ℕ) (head_only : Place) (held : List ℕ) (item : Item) (next : Place) → Waits limit head_only → FirstAt limit (place_with head_only held) item next
    → Ending limit head_only held item next
ending limit (Open continued had) held item next w f = ending_by limit continued had held item next w f (cuts had held f.text f.behind f.whole)
ending limit Shut held item next w f = absurd f
