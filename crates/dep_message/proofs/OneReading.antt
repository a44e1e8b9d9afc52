-- A stream spells one list of items.
use Rattle.std.proofs.Common.{◌≡◌, ℕ, ◌+◌, ◌<◌, ◌≤◌, Bool, true, false, List, [], ◌∷◌, ◌++◌, length, Some, None, Err, refl, sym, ap, subst, ◌∙◌, append_assoc, arith, length-append, inl, inr}
use Rattle.std.proofs.lemmas.List.{append-nil}
use Rattle.dep_head.specs.Head.{HeadParts, IsHeadText, EndsOnce, head_end, head_limit}
use Rattle.dep_head.proofs.HeadEnd.{end_more, end_front}
use Rattle.dep_head.proofs.OneHead.{one_head}
use Rattle.dep_types.specs.declared.refusal.Refusal.{Refusal}
use Rattle.dep_body.specs.Framing.{framing}
use Rattle.dep_body.specs.Body.{IsBodyText, IsBodyFault, IsPartOfBody}
use Rattle.dep_body.specs.declared.frame.Framing.{Framing}
use Rattle.dep_body.specs.declared.frame.FrameFault.{FrameFault}
use Rattle.dep_body.proofs.Splits.{fronts_same, backs_same}
use Rattle.dep_body.proofs.OneBody.{one_body, one_fault as one_body_fault, body_no_fault, body_no_part, fault_no_part}
use Rattle.dep_message.specs.Heads.{is_head_only, is_due}
use Rattle.dep_message.specs.Places.{Place, Open, Shut}
use Rattle.dep_message.specs.Stream.{Item, Fault, Continue, Request, after_item, frame_refusal, HasHead, IsNoHead, IsFaultText, no_head, bad_framing, bad_body, IsContinueText, IsRequestText, IsItemText, FirstAt, ReadsItems, HasPartOfBody, Waits, Spells}
use Rattle.dep_message.specs.declared.message.Message.{Message}

-- what is behind equal fronts is equal
behind_same : (a b x y : List ℕ) → a ++ x ≡ b ++ y → a ≡ b → x ≡ y
behind_same a b x y e same = backs_same a b x y (ap length same) e

-- two fronts of the same bytes that end once are one
fronts : (a b x y : List ℕ) → a ++ x ≡ b ++ y → EndsOnce a → EndsOnce b → a ≡ b
fronts a b x y e f g =
    let p : head_end (a ++ x) ≡ Some (length a) = end_more a x (length a) f in
    let q : head_end (b ++ y) ≡ Some (length b) = end_more b y (length b) g in
    let r : head_end (a ++ x) ≡ head_end (b ++ y) = ap head_end e in
    let same : length a ≡ length b = cc in
    fronts_same a b x y same e

-- two heads of the same bytes are one
record SameHead (h k : HeadParts) (x y : List ℕ) : Type 0 where
  pub head : h ≡ k
  pub rest : x ≡ y

heads : (a b x y : List ℕ) (h k : HeadParts) → a ++ x ≡ b ++ y → IsHeadText a h → IsHeadText b k → SameHead h k x y
heads a b x y h k e f g =
    let same = fronts a b x y e f.ends g.ends in
    record { head = one_head b h k (subst (λ (l : List ℕ). IsHeadText l h) same f) g; rest = behind_same a b x y e same }

-- bytes that begin with no head begin with no head's text
no_head_first : (a b x y : List ℕ) (h : HeadParts) → a ++ x ≡ b ++ y → IsNoHead a → IsHeadText b h → ⊥
no_head_first a b x y h e n t =
    elim n as (λ _. ⊥) [
      | inl k ↦ (let same : a ≡ b = fronts a b x y e k.0 t.ends in k.2 h (subst (λ (l : List ℕ). IsHeadText l h) (sym same) t))
      | inr k ↦ long k.0 k.1
    ]
  where
    long : head_end a ≡ None → length a ≡ head_limit → ⊥
    long none full =
        let q : head_end (a ++ x) ≡ Some (length b) = ap head_end e ∙ end_more b y (length b) t.ends in
        let small : length b ≤ head_limit = t.small in
        let front : length b ≤ length a = omega arith in
        let some : head_end a ≡ Some (length b) = end_front a x (length b) q front in
        cc (sym none ∙ some)

-- two good heads of the same bytes: one head, one framing, the same bytes behind them, and both wait or neither
pub record SameHeads (h k : HeadParts) (f g : Framing) (x y : List ℕ) (due also : Bool) : Type 0 where
  pub head : h ≡ k
  pub frame : f ≡ g
  pub rest : x ≡ y
  pub due_same : due ≡ also

pub good_heads : (limit : ℕ) (continued due also : Bool) (a b x y c d : List ℕ) (h k : HeadParts) (f g : Framing) → a ++ x ≡ b ++ y
    → HasHead limit continued due a h f c → HasHead limit continued also b k g d → SameHeads h k f g (c ++ x) (d ++ y) due also
good_heads limit continued due also a b x y c d h k f g e p q =
    let s : p.front ++ (c ++ x) ≡ q.front ++ (d ++ y) =
    sym (append_assoc p.front c x) ∙ (ap (λ l. l ++ x) (sym p.whole) ∙ (e ∙ (ap (λ l. l ++ y) q.whole ∙ append_assoc q.front d y))) in
    let same = heads p.front q.front (c ++ x) (d ++ y) h k s p.is_head q.is_head in
    let frame : f ≡ g = cc (sym p.framed ∙ (ap (framing limit) same.head ∙ q.framed)) in
    record {
      head = same.head;
      frame = frame;
      rest = same.rest;
      due_same = sym p.due_is ∙ (ap (λ l. is_due continued l f) same.head ∙ (ap (λ l. is_due continued k l) frame ∙ q.due_is));
    }

-- a good head is no bad one, and stands where no head is missing
good_or_bad : {fault : FrameFault} (limit : ℕ) (continued due : Bool) (a b x y d : List ℕ) (h k : HeadParts) (g : Framing) → a ++ x ≡ b ++ y
    → IsHeadText a h → framing limit h ≡ Err fault → HasHead limit continued due b k g d → ⊥
good_or_bad limit continued due a b x y d h k g e p bad q =
    let s : a ++ x ≡ q.front ++ (d ++ y) = e ∙ (ap (λ l. l ++ y) q.whole ∙ append_assoc q.front d y) in
    let same = heads a q.front x (d ++ y) h k s p q.is_head in
    cc (sym bad ∙ (ap (framing limit) same.head ∙ q.framed))

good_or_none : (limit : ℕ) (continued due : Bool) (a b x y d : List ℕ) (k : HeadParts) (g : Framing) → a ++ x ≡ b ++ y
    → IsNoHead a → HasHead limit continued due b k g d → ⊥
good_or_none limit continued due a b x y d k g e n q =
    no_head_first a q.front x (d ++ y) k (e ∙ (ap (λ l. l ++ y) q.whole ∙ append_assoc q.front d y)) n q.is_head

-- two requests of the same bytes are one
pub one_request : (limit : ℕ) (continued : Bool) (a b x y : List ℕ) (m k : Message) → a ++ x ≡ b ++ y
    → IsRequestText limit continued a m → IsRequestText limit continued b k → (m ≡ k) × (x ≡ y)
one_request limit continued a b x y m k e f g =
    let same = good_heads limit continued false false a b x y f.body g.body m.head k.head f.frame g.frame e f.has_head g.has_head in
    let body = one_body limit g.frame f.body g.body x y m.content k.content same.rest
    (subst (λ (frame : Framing). IsBodyText limit frame f.body m.content) same.frame f.is_body) g.is_body in
    (λ i. record { head = same.head i; content = body.1 i }, behind_same f.body g.body x y same.rest body.0)

-- a fault's text is no request's
pub fault_request : {r : Refusal} {c : Bool} (limit : ℕ) (continued : Bool) (a b x y : List ℕ) (k : Message) → a ++ x ≡ b ++ y
    → IsFaultText limit continued a r c → IsRequestText limit continued b k → ⊥
fault_request limit continued a b x y k e (no_head n) g = good_or_none limit continued false a b x y g.body k.head g.frame e n g.has_head
fault_request limit continued a b x y k e (bad_framing {head} fault t bad) g = good_or_bad limit continued false a b x y g.body head k.head g.frame e t bad g.has_head
fault_request limit continued a b x y k e (bad_body {head} {frame} {body} fault p bad) g =
    let same = good_heads limit continued false false a b x y body g.body head k.head frame g.frame e p g.has_head in
    body_no_fault limit g.frame g.body body y x k.content fault (sym same.rest) g.is_body
    (subst (λ (f : Framing). IsBodyFault limit f body fault) same.frame bad)

-- a client that waits has sent no faulty request, and no whole one
pub continue_request : (limit : ℕ) (continued : Bool) (a b x y : List ℕ) (k : Message) → a ++ x ≡ b ++ y
    → IsContinueText limit continued a → IsRequestText limit continued b k → ⊥
continue_request limit continued a b x y k e f g =
    let same = good_heads limit continued true false a b x y [] g.body f.head k.head f.frame g.frame e f.has_head g.has_head in
    cc (same.due_same)

continue_fault : {r : Refusal} {c : Bool} (limit : ℕ) (continued : Bool) (a b x y : List ℕ) → a ++ x ≡ b ++ y
    → IsContinueText limit continued a → IsFaultText limit continued b r c → ⊥
continue_fault limit continued a b x y e f (no_head n) = good_or_none limit continued true b a y x [] f.head f.frame (sym e) n f.has_head
continue_fault limit continued a b x y e f (bad_framing {head} fault t bad) = good_or_bad limit continued true b a y x [] head f.head f.frame (sym e) t bad f.has_head
continue_fault limit continued a b x y e f (bad_body {head} {frame} {body} fault p bad) =
    let same = good_heads limit continued true false a b x y [] body f.head head f.frame frame e f.has_head p in
    cc (same.due_same)

-- faulty bytes have one fault
one_fault : {r s : Refusal} {c d : Bool} (limit : ℕ) (continued : Bool) (a b x y : List ℕ) → a ++ x ≡ b ++ y
    → IsFaultText limit continued a r c → IsFaultText limit continued b s d → (r ≡ s) × (c ≡ d)
one_fault limit continued a b x y e (no_head n) (no_head m) = (refl, refl)
one_fault limit continued a b x y e (no_head n) (bad_framing {head} fault t bad) = absurd (no_head_first a b x y head e n t)
one_fault limit continued a b x y e (no_head n) (bad_body {head} {frame} {body} fault p bad) = absurd (good_or_none limit continued false a b x y body head frame e n p)
one_fault limit continued a b x y e (bad_framing {head} fault t bad) (no_head m) = absurd (no_head_first b a y x head (sym e) m t)
one_fault limit continued a b x y e (bad_framing {head} fault t bad) (bad_framing {head = other} second u worse) =
    let same = heads a b x y head other e t u in
    (ap frame_refusal (cc (sym bad ∙ (ap (framing limit) same.head ∙ worse))), ap is_head_only same.head)
one_fault limit continued a b x y e (bad_framing {head} fault t bad) (bad_body {head = other} {frame} {body} second p worse) =
    absurd (good_or_bad limit continued false a b x y body head other frame e t bad p)
one_fault limit continued a b x y e (bad_body {head} {frame} {body} fault p bad) (no_head m) = absurd (good_or_none limit continued false b a y x body head frame (sym e) m p)
one_fault limit continued a b x y e (bad_body {head} {frame} {body} fault p bad) (bad_framing {head = other} second t worse) =
    absurd (good_or_bad limit continued false b a y x body other head frame (sym e) t worse p)
one_fault limit continued a b x y e (bad_body {head} {frame} {body} fault p bad) (bad_body {head = other} {frame = also} {body = others} second q worse) =
    let same = good_heads limit continued false false a b x y body others head other frame also e p q in
    let one = one_body_fault limit also body others x y fault second same.rest (subst (λ (f : Framing). IsBodyFault limit f body fault) same.frame bad) worse in
    (ap frame_refusal one.1, ap is_head_only same.head)

-- where an item stands, no other does
one_first : (limit : ℕ) (continued : Bool) (i j : Item) (a b x y : List ℕ) → a ++ x ≡ b ++ y
    → IsItemText limit continued a i → IsItemText limit continued b j → (i ≡ j) × (after_item i a x ≡ after_item j b y)
one_first limit continued (Request m) (Request k) a b x y e f g =
    let o = one_request limit continued a b x y m k e f g in
    (ap Request o.0, λ i. after_item (Request (o.0 i)) [] (o.1 i))
one_first limit continued (Request m) Continue a b x y e f g = absurd (continue_request limit continued b a y x m (sym e) g f)
one_first limit continued (Request m) (Fault r c) a b x y e f g = absurd (fault_request limit continued b a y x m (sym e) g f)
one_first limit continued Continue (Request k) a b x y e f g = absurd (continue_request limit continued a b x y k e f g)
one_first limit continued Continue Continue a b x y e f g = (refl, ap (λ bytes. Open true bytes) e)
one_first limit continued Continue (Fault r c) a b x y e f g = absurd (continue_fault limit continued a b x y e f g)
one_first limit continued (Fault r c) (Request k) a b x y e f g = absurd (fault_request limit continued a b x y k e f g)
one_first limit continued (Fault r c) Continue a b x y e f g = absurd (continue_fault limit continued b a y x (sym e) g f)
one_first limit continued (Fault r c) (Fault s d) a b x y e f g =
    let o = one_fault limit continued a b x y e f g in
    (λ i. Fault (o.0 i) (o.1 i), refl)

pub one_at : (limit : ℕ) (from : Place) (i j : Item) (p q : Place) → FirstAt limit from i p → FirstAt limit from j q → (i ≡ j) × (p ≡ q)
one_at limit (Open continued bytes) i j p q f g =
    let o = one_first limit continued i j f.text g.text f.behind g.behind (sym f.whole ∙ g.whole) f.spelled g.spelled in
    (o.0, f.goes_on ∙ (o.1 ∙ sym g.goes_on))
one_at limit Shut i j p q f g = absurd f

-- where no head has ended, no item stands first
head_ends : {due : Bool} (limit : ℕ) (continued : Bool) (text behind body : List ℕ) (head : HeadParts) (frame : Framing)
    → HasHead limit continued due text head frame body → head_end (text ++ behind) ≡ None → ⊥
head_ends limit continued text behind body head frame h none =
    let some : head_end (text ++ behind) ≡ Some (length h.front) =
    ap head_end (ap (λ l. l ++ behind) h.whole ∙ append_assoc h.front body behind) ∙ end_more h.front (body ++ behind) (length h.front) h.is_head.ends in
    cc (sym none ∙ some)

text_ends : (limit : ℕ) (continued : Bool) (i : Item) (text behind : List ℕ) → IsItemText limit continued text i → head_end (text ++ behind) ≡ None → head_limit ≤ length text
text_ends limit continued (Request m) text behind t none = absurd (head_ends limit continued text behind t.body m.head t.frame t.has_head none)
text_ends limit continued Continue text behind t none = absurd (head_ends limit continued text behind [] t.head t.frame t.has_head none)
text_ends limit continued (Fault r c) text behind t none = of_fault t
  where
    of_fault : {r' : Refusal} {c' : Bool} → IsFaultText limit continued text r' c' → head_limit ≤ length text
    of_fault (no_head (inl k)) = absurd (cc (sym none ∙ end_more text behind (length text) k.0))
    of_fault (no_head (inr k)) = omega (arith, k.1)
    of_fault (bad_framing fault u bad) = absurd (cc (sym none ∙ end_more text behind (length text) u.ends))
    of_fault (bad_body {head} {frame} {body} fault p bad) = absurd (head_ends limit continued text behind body head frame p none)

-- where a body is a part, no item stands first
text_whole : (limit : ℕ) (continued : Bool) (i : Item) (text behind : List ℕ) (p : HasPartOfBody limit continued (text ++ behind)) → IsItemText limit continued text i → ⊥
text_whole limit continued i text behind p t = of_item i t
  where
    same_bytes : text ++ behind ≡ (text ++ behind) ++ []
    same_bytes = sym (append-nil (text ++ behind))

    of_fault : {r' : Refusal} {c' : Bool} → IsFaultText limit continued text r' c' → ⊥
    of_fault (no_head n) = good_or_none limit continued false text (text ++ behind) behind [] p.behind p.head p.frame same_bytes n p.has_head
    of_fault (bad_framing {head} fault u bad) = good_or_bad limit continued false text (text ++ behind) behind [] p.behind head p.head p.frame same_bytes u bad p.has_head
    of_fault (bad_body {head} {frame} {body} fault q bad) =
        let same = good_heads limit continued false false text (text ++ behind) behind [] body p.behind head p.head frame p.frame same_bytes q p.has_head in
        let rest : p.behind ≡ body ++ behind = sym (same.rest ∙ append-nil p.behind) in
        fault_no_part limit p.frame body behind fault (subst (λ (f : Framing). IsBodyFault limit f body fault) same.frame bad)
        (subst (λ (l : List ℕ). IsPartOfBody limit p.frame l) rest p.is_part)

    of_item : (j : Item) → IsItemText limit continued text j → ⊥
    of_item (Fault r c) u = of_fault u
    of_item Continue u =
        let same = good_heads limit continued true false text (text ++ behind) behind [] [] p.behind u.head p.head u.frame p.frame same_bytes u.has_head p.has_head in
        cc (same.due_same)
    of_item (Request m) u =
        let same = good_heads limit continued false false text (text ++ behind) behind [] u.body p.behind m.head p.head u.frame p.frame same_bytes u.has_head p.has_head in
        let rest : p.behind ≡ u.body ++ behind = sym (same.rest ∙ append-nil p.behind) in
        body_no_part limit p.frame u.body behind m.content (subst (λ (f : Framing). IsBodyText limit f u.body m.content) same.frame u.is_body)
        (subst (λ (l : List ℕ). IsPartOfBody limit p.frame l) rest p.is_part)

pub waits_none : (limit : ℕ) (at next : Place) (item : Item) → Waits limit at → FirstAt limit at item next → ⊥
waits_none limit (Open continued bytes) next item (inl w) f =
    let long : head_limit ≤ length f.text = text_ends limit continued item f.text f.behind f.spelled (ap head_end (sym f.whole) ∙ w.0) in
    let l : length bytes ≡ length f.text + length f.behind = ap length f.whole ∙ length-append f.text f.behind in
    let short : length bytes < head_limit = w.1 in
    omega arith
waits_none limit (Open continued bytes) next item (inr p) f =
    text_whole limit continued item f.text f.behind (subst (λ (b : List ℕ). HasPartOfBody limit continued b) f.whole p) f.spelled
waits_none limit Shut next item w f = f

-- what a longer reading reads begins with what a shorter one does
pub reads_prefix : (limit : ℕ) (xs ys : List Item) (from p q : Place) → ReadsItems limit from xs p → ReadsItems limit from ys q → Waits limit q
    → (zs : List Item) × (ys ≡ xs ++ zs) × ReadsItems limit p zs q
reads_prefix limit [] ys from p q r s w = (ys, refl, subst (λ (a : Place). ReadsItems limit a ys q) (sym r) s)
reads_prefix limit (x ∷ xs) [] from p q r s w = absurd (waits_none limit from r.0 x (subst (λ (a : Place). Waits limit a) s w) r.1)
reads_prefix limit (x ∷ xs) (y ∷ ys) from p q r s w =
    let o = one_at limit from x y r.0 s.0 r.1 s.1 in
    let k = reads_prefix limit xs ys r.0 p q r.2 (subst (λ (a : Place). ReadsItems limit a ys q) (sym o.1) s.2) w in
    (k.0, λ i. sym o.0 i ∷ k.1 i, k.2)

-- a stream spells one list of items, and leaves one place
pub one_spelling : (limit : ℕ) (stream : List ℕ) (xs ys : List Item) (p q : Place) → Spells limit stream xs p → Spells limit stream ys q → (xs ≡ ys) × (p ≡ q)
one_spelling limit stream xs ys p q f g = same (reads_prefix limit xs ys (Open false stream) p q f.reads g.reads g.waits)
  where
    same : (k : (zs : List Item) × (ys ≡ xs ++ zs) × ReadsItems limit p zs q) → (xs ≡ ys) × (p ≡ q)
    same ([], e, r) = (sym (e ∙ append-nil xs), sym r)
    same (z ∷ zs, e, r) = absurd (waits_none limit p r.0 z f.waits r.1)
