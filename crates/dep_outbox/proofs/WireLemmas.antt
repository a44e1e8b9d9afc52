-- What becomes of the bytes of a wire.
use Rattle.std.proofs.Common.{◌≡◌, ℕ, suc, ◌+◌, List, [], ◌∷◌, ◌++◌, Option, None, Some, refl, sym, ap, ◌∙◌, append_assoc, length, take, drop, ◌≢◌, arith, Result, Ok, Err, OnErr}
use Rattle.std.proofs.lemmas.List.{append-nil, take-append-drop, drop-drop, drop_all}
use Rattle.std.specs.Io.KnownBytes.{Appends, Consumes, Keeps, IsAtEnd, prepend_known}
use Rattle.dep_types.specs.Writing.{TakesPart}
use Rattle.dep_outbox.specs.Wires.{joined_bytes, AreCounted}

-- more is owed
pub appends_behind : (a h k : Option (List ℕ)) (bs : List ℕ) → Appends h k bs → Appends (joined_bytes a h) (joined_bytes a k) bs
appends_behind None h k bs p = tt
appends_behind (Some x) None k bs p = tt
appends_behind (Some x) (Some y) None bs p = absurd p
appends_behind (Some x) (Some y) (Some z) bs p = ap (λ l. x ++ l) p ∙ sym (append_assoc x y bs)

-- a prefix of what is in memory waits no more
pub consumes_front : (h : Option (List ℕ)) (items : List ℕ) (s n : ℕ) → Consumes (prepend_known (drop s items) h) (prepend_known (drop (s + n) items) h) (take n (drop s items))
consumes_front None items s n = tt
consumes_front (Some y) items s n =
    ap (λ l. l ++ y) (sym (take-append-drop n (drop s items))) ∙ append_assoc (take n (drop s items)) (drop n (drop s items)) y
    ∙ ap (λ (l : List ℕ). take n (drop s items) ++ (l ++ y)) (drop-drop n s items)

-- none of some bytes was taken
pub none_taken : (a b : Option (List ℕ)) (bytes : List ℕ) → bytes ≢ [] → Keeps a b → TakesPart a b bytes
none_taken None b bytes some p = ([], record { rest = bytes; joined = refl; short = some }, tt)
none_taken (Some x) None bytes some p = absurd p
none_taken (Some x) (Some y) bytes some p = ([], record { rest = bytes; joined = refl; short = some }, p ∙ sym (append-nil x))

-- what was sent before them changes nothing of what bytes are taken
pub appends_after : (a b c : Option (List ℕ)) (bs : List ℕ) → Keeps a b → Appends b c bs → Appends a c bs
appends_after None b c bs p q = tt
appends_after (Some x) None c bs p q = absurd p
appends_after (Some x) (Some y) None bs p q = absurd q
appends_after (Some x) (Some y) (Some z) bs p q = q ∙ ap (λ l. l ++ bs) p

-- the same of a part of them
pub part_after : (t a h k : Option (List ℕ)) (bs : List ℕ) → Keeps t (joined_bytes a h) → TakesPart h k bs → TakesPart t (joined_bytes a k) bs
part_after t a h k bs p (x, short, q) = (x, short, appends_after t (joined_bytes a h) (joined_bytes a k) x p (appends_behind a h k x q))

-- what holds anyway holds at an error
pub at_any_error : {A E P : Type 0} (r : Result A E) → P → OnErr r P
at_any_error (Ok x) p = tt
at_any_error (Err y) p = p

-- without bytes in memory none wait but those in the spool
pub none_waiting : (h : Option (List ℕ)) (f : List ℕ) (s : ℕ) → length f ≡ 0 → IsAtEnd h → IsAtEnd (prepend_known (drop s f) h)
none_waiting None f s none q = tt
none_waiting (Some y) f s none q = rw q (append-nil (drop s f) ∙ drop_all s f (omega (arith, none)))

-- no byte is known where none is counted
pub none_counted : (h : Option (List ℕ)) (n : ℕ) → AreCounted h n → n ≡ 0 → IsAtEnd h
none_counted None n counts none = tt
none_counted (Some []) n counts none = refl
none_counted (Some (x ∷ xs)) n counts none = absurd (let bad : suc (length xs) ≡ 0 = counts ∙ none in cc)

-- a wire over a socket that took nothing has taken nothing, where none wait
pub nothing_reported : (a h : Option (List ℕ)) → IsAtEnd a → IsAtEnd h → IsAtEnd (joined_bytes a h)
nothing_reported None h p q = tt
nothing_reported (Some x) None p q = tt
nothing_reported (Some x) (Some y) p q = rw p q

-- what is taken out of the spool and sent off the front changes nothing of what was taken
pub sends_front : (a b h m k : Option (List ℕ)) (n : ℕ) (sent front : List ℕ) → sent ≡ front → Keeps h m → Appends a b (take n sent) → Consumes m k (take n front) → Keeps (joined_bytes a h) (joined_bytes b k)
sends_front None b h m k n sent front same p q r = tt
sends_front (Some x) None h m k n sent front same p q r = absurd q
sends_front (Some x) (Some y) None m k n sent front same p q r = tt
sends_front (Some x) (Some y) (Some u) None k n sent front same p q r = absurd p
sends_front (Some x) (Some y) (Some u) (Some v) None n sent front same p q r = absurd r
sends_front (Some x) (Some y) (Some u) (Some v) (Some w) n sent front same p q r =
    ap (λ (l : List ℕ). l ++ w) q ∙ append_assoc x (take n sent) w
    ∙ ap (λ (l : List ℕ). x ++ l) (ap (λ (l : List ℕ). take n l ++ w) same ∙ (sym r ∙ p))

-- no bytes are taken at once
pub takes_none : (a : Option (List ℕ)) (bytes : List ℕ) → length bytes ≡ 0 → Appends a a bytes
takes_none None bytes none = tt
takes_none (Some x) [] none = sym (append-nil x)
takes_none (Some x) (y ∷ ys) none = absurd (let bad : suc (length ys) ≡ 0 = none in cc)
