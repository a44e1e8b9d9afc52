-- Laws of the reading of a stream.
use Rattle.std.proofs.Common.{◌≡◌, ℕ, Bool, true, false, List, [], ◌∷◌, ◌++◌, length, ◌<◌, refl, sym, ap, subst, ◌∙◌, append_assoc, arith, if◌then◌else◌}
use Rattle.dep_message.specs.Heads.{closes}
use Rattle.dep_message.specs.Places.{Place, Open, Shut, HasBytes, place_with}
use Rattle.dep_message.specs.Stream.{Item, Fault, Continue, Request, after_item, FirstAt, ReadsItems}

more_if : (b : Bool) (behind piece : List ℕ)
    → (if b then Shut else Open false (behind ++ piece)) ≡ place_with (if b then Shut else Open false behind) piece
more_if true behind piece = refl
more_if false behind piece = refl

-- where the reading stands behind an item, once more bytes have come
more_after : (item : Item) (text behind piece : List ℕ) → after_item item text (behind ++ piece) ≡ place_with (after_item item text behind) piece
more_after (Fault r b) text behind piece = refl
more_after Continue text behind piece = ap (λ bytes. Open true bytes) (sym (append_assoc text behind piece))
more_after (Request m) text behind piece = more_if (closes m.head) behind piece

-- the first item stays the first when more bytes come
pub first_more : (limit : ℕ) (from : Place) (item : Item) (next : Place) (piece : List ℕ)
    → FirstAt limit from item next → FirstAt limit (place_with from piece) item (place_with next piece)
first_more limit (Open continued bytes) item next piece f =
    record {
      text = f.text;
      behind = f.behind ++ piece;
      whole = ap (λ bytes. bytes ++ piece) f.whole ∙ append_assoc f.text f.behind piece;
      spelled = f.spelled;
      goes_on = rw f.goes_on (sym (more_after item f.text f.behind piece));
    }
first_more limit Shut item next piece f = f

-- The reading of a stream carries on: what was read before is read still, and what was left goes on with the piece.
pub reads_more : (limit : ℕ) (items : List Item) (from to : Place) (piece : List ℕ)
    → ReadsItems limit from items to → ReadsItems limit (place_with from piece) items (place_with to piece)
reads_more limit [] from to piece r = ap (λ p. place_with p piece) r
reads_more limit (item ∷ items) from to piece r =
    (place_with r.0 piece, first_more limit from item r.0 piece r.1, reads_more limit items r.0 to piece r.2)

-- one reading after another
pub reads_append : (limit : ℕ) (xs ys : List Item) (from mid to : Place)
    → ReadsItems limit from xs mid → ReadsItems limit mid ys to → ReadsItems limit from (xs ++ ys) to
reads_append limit [] ys from mid to r s = let e : mid ≡ from = r in subst (λ p. ReadsItems limit p ys to) e s
reads_append limit (x ∷ xs) ys from mid to r s = (r.0, r.1, reads_append limit xs ys r.0 mid to r.2 s)

-- one item more
pub reads_one : (limit : ℕ) (xs : List Item) (x : Item) (from mid to : Place)
    → ReadsItems limit from xs mid → FirstAt limit mid x to → ReadsItems limit from (xs ++ x ∷ []) to
reads_one limit xs x from mid to r f = reads_append limit xs (x ∷ []) from mid to r (to, f, refl)

pub has_bytes : (continued : Bool) (bytes : List ℕ) → 0 < length bytes → HasBytes (Open continued bytes)
has_bytes continued [] l = absurd (omega arith)
has_bytes continued (b ∷ bytes) l = tt
