-- What is kept of the bytes.
use Rattle.std.proofs.Common.{◌≡◌, ℕ, zero, suc, ◌+◌, ◌<◌, ◌≤◌, Bool, false, None, arith, inl, inr, List, [], ◌∷◌, ◌++◌, length, take, drop, sym, ap, subst, ◌∙◌, append-nil, append_assoc, length-drop, refl}
use Rattle.std.proofs.lemmas.Bool.{cases_lt}
use Rattle.std.proofs.lemmas.List.{drop-drop, drop_all, length-take-le, take-append-drop, take_all}
use Rattle.std.proofs.Math.Seq.{take-length}
use Rattle.dep_head.specs.Head.{head_end, head_limit}
use Rattle.dep_message.specs.Giving.{BeginsWithHead}
use Rattle.dep_message.specs.Places.{Reading, Open}
use Rattle.dep_message.specs.Working.{IsUnsearched, IsItem, HasSizedHead, IsKnownProgress, IsAtHead, IsReadTo, ReadsChunks, KeepsBytes, StandsApart, bytes_with, first_found, kept_bytes, reading_of}
use Rattle.dep_message.specs.Stream.{IsRequestText, Waits}
use Rattle.dep_message.specs.declared.first.FramedHead.{FramedHead}
use Rattle.dep_message.specs.declared.intake.Standing.{Standing}
use Rattle.dep_message.specs.declared.intake.Standing.TheVariants.{Live}
use Rattle.dep_message.specs.declared.message.Message.{Message}
use Rattle.dep_message.specs.declared.progress.Found.{Found}
use Rattle.dep_message.specs.declared.progress.Found.TheVariants as F
use Rattle.dep_message.specs.declared.progress.Progress.{Progress}
use Rattle.dep_message.specs.declared.progress.Progress.TheVariants.{Searched, Sized, Chunked}
use Rattle.dep_message.specs.declared.progress.SizedRequest.{SizedRequest}
use Rattle.dep_message.specs.declared.progress.ChunkedRequest.{ChunkedRequest}
use Rattle.dep_body.specs.declared.used.UsedBytes.{UsedBytes}
use Rattle.dep_message.specs.declared.unparsed.Unparsed.{Unparsed}
use Rattle.dep_message.proofs.Bodies.{begins_with_head, sized_body, sized_waits, whole_request}
use Rattle.dep_message.proofs.SearchOn.{searched_none}

-- the same bytes are kept, and the item that stands first in them was found
abbrev pub IsFoundIn : (unparsed : Unparsed) → List ℕ → Unparsed → Type 0
IsFoundIn unparsed bytes new = KeepsBytes unparsed.limit unparsed.continued bytes new × IsReadTo unparsed.limit unparsed.continued bytes new.progress

-- with nothing known of the first request, the bytes are those of the buffer
pub keeps_fresh : (limit : ℕ) (continued : Bool) (bytes : List ℕ) (unparsed : Unparsed) → IsUnsearched unparsed
    → unparsed.limit ≡ limit → unparsed.continued ≡ continued → unparsed.buffer ≡ bytes → KeepsBytes limit continued bytes unparsed
keeps_fresh limit continued bytes unparsed fresh same_limit same_continued same_bytes = record {
  limit_is = same_limit;
  continued_is = same_continued;
  bytes_are = ap (λ (p : Progress). bytes_with p unparsed.buffer) fresh ∙ same_bytes;
  known = subst (λ (p : Progress). IsKnownProgress unparsed.limit unparsed.continued unparsed.buffer p) (sym fresh) (searched_none unparsed.buffer);
}

-- no head ends in the bytes, and all were searched
pub keeps_searched : (unparsed new : Unparsed) (n : ℕ) → new ≡ record unparsed { progress = Searched n } → n ≡ length unparsed.buffer
    → (head_end unparsed.buffer ≡ None) × (length unparsed.buffer < head_limit) → IsFoundIn unparsed unparsed.buffer new
keeps_searched unparsed new n new_is n_is waits =
    let all : take n unparsed.buffer ≡ unparsed.buffer = ap (λ k. take k unparsed.buffer) n_is ∙ take-length unparsed.buffer in
    subst (IsFoundIn unparsed unparsed.buffer) (sym new_is) (
      record { limit_is = refl; continued_is = refl; bytes_are = refl; known = record { within = omega (arith, n_is); no_end = ap head_end all ∙ waits.0 } },
      inl waits,
    )

-- the item that stands first was found
pub keeps_found : (unparsed new : Unparsed) (bytes : List ℕ) (item : Found) (used : UsedBytes) → new ≡ record unparsed { progress = first_found item used }
    → used.items ++ unparsed.buffer ≡ bytes → IsItem unparsed.limit unparsed.continued used.items unparsed.buffer item → IsFoundIn unparsed bytes new
keeps_found unparsed new bytes item used new_is whole is =
    subst (IsFoundIn unparsed bytes) (sym new_is) (record { limit_is = refl; continued_is = refl; bytes_are = whole; known = is }, tt)

-- and none of its bytes were used
pub keeps_first : (unparsed new : Unparsed) (item : Found) (used : UsedBytes) → new ≡ record unparsed { progress = first_found item used }
    → used.items ≡ [] → IsItem unparsed.limit unparsed.continued [] unparsed.buffer item → IsFoundIn unparsed unparsed.buffer new
keeps_first unparsed new item used new_is none is =
    keeps_found unparsed new unparsed.buffer item used new_is (ap (λ l. l ++ unparsed.buffer) none)
    (subst (λ (l : List ℕ). IsItem unparsed.limit unparsed.continued l unparsed.buffer item) (sym none) is)

-- a whole request was, whose last bytes were the first of the buffer
pub keeps_request : (unparsed new : Unparsed) (bytes : List ℕ) (used : UsedBytes) (count : ℕ) (m : Message)
    → new ≡ record unparsed { buffer = drop count unparsed.buffer; progress = first_found (F.Message m) used }
    → used.items ++ drop count unparsed.buffer ≡ bytes → IsRequestText unparsed.limit unparsed.continued used.items m → IsFoundIn unparsed bytes new
keeps_request unparsed new bytes used count m new_is whole is =
    keeps_found (record unparsed { buffer = drop count unparsed.buffer }) new bytes (F.Message m) used new_is whole is

-- ---- a body of known length

all_apart : (behind buffer : List ℕ) → buffer ≡ [] → behind ≡ behind ++ buffer
all_apart behind buffer none = sym (append-nil behind) ∙ ap (λ l. behind ++ l) (sym none)

-- none of it is in the buffer, if the body has not come whole
pub none_apart : (size : ℕ) (behind buffer : List ℕ) → StandsApart size behind buffer → length behind < size → buffer ≡ []
none_apart size behind buffer (inl none) less = none
none_apart size behind buffer (inr whole) less = absurd (omega (arith, whole, less))

-- nor if it is more than the body
pub none_more : (size : ℕ) (behind buffer rest : List ℕ) → StandsApart size behind buffer → rest ≡ drop size behind → 0 < length rest → buffer ≡ []
none_more size behind buffer rest (inl none) rest_is some = none
none_more size behind buffer rest (inr whole) rest_is some = absurd (omega (arith, whole, some, ap length rest_is, length-drop size behind))

-- the head and the bytes behind it stand apart
pub keeps_apart : (unparsed new : Unparsed) (request : SizedRequest) → HasSizedHead unparsed.limit unparsed.continued request.used.items request.head request.length
    → unparsed.buffer ≡ [] → new ≡ record unparsed { progress = Sized request }
    → KeepsBytes unparsed.limit unparsed.continued (request.used.items ++ (request.behind ++ unparsed.buffer)) new
keeps_apart unparsed new request sized none new_is =
    subst (KeepsBytes unparsed.limit unparsed.continued (request.used.items ++ (request.behind ++ unparsed.buffer))) (sym new_is) (record {
      limit_is = refl;
      continued_is = refl;
      bytes_are = ap (λ l. request.used.items ++ l) (all_apart request.behind unparsed.buffer none);
      known = (none, sized);
    })

-- and the body has not come whole
pub waits_apart : (unparsed new : Unparsed) (request : SizedRequest) → HasSizedHead unparsed.limit unparsed.continued request.used.items request.head request.length
    → unparsed.buffer ≡ [] → length request.behind < request.length → new ≡ record unparsed { progress = Sized request }
    → IsFoundIn unparsed (request.used.items ++ (request.behind ++ unparsed.buffer)) new
waits_apart unparsed new request sized none less new_is = (
  keeps_apart unparsed new request sized none new_is,
  subst (λ (u : Unparsed). IsReadTo unparsed.limit unparsed.continued (request.used.items ++ (request.behind ++ unparsed.buffer)) u.progress) (sym new_is)
      (subst (λ (l : List ℕ). Waits unparsed.limit (Open unparsed.continued (request.used.items ++ l))) (all_apart request.behind unparsed.buffer none)
      (sized_waits unparsed.limit unparsed.continued request.used.items request.behind request.head request.length sized less)),
)

-- what is more than the body goes behind the buffer
more_behind : (size : ℕ) (behind buffer : List ℕ) → StandsApart size behind buffer → size ≤ length behind
    → take size behind ++ (buffer ++ drop size behind) ≡ behind ++ buffer
more_behind size behind buffer (inl none) within =
    ap (λ l. take size behind ++ (l ++ drop size behind)) none ∙ (take-append-drop size behind ∙ all_apart behind buffer none)
more_behind size behind buffer (inr whole) within =
    ap (λ l. l ++ (buffer ++ drop size behind)) (take_all size behind (omega (arith, whole)))
    ∙ ap (λ l. behind ++ l) (ap (λ l. buffer ++ l) (drop_all size behind (omega (arith, whole))) ∙ append-nil buffer)

-- the body has come whole
pub keeps_body : (unparsed new : Unparsed) (request : SizedRequest) (used : UsedBytes) (rest : List ℕ) (m : Message)
    → HasSizedHead unparsed.limit unparsed.continued request.used.items m.head request.length → StandsApart request.length request.behind unparsed.buffer
    → request.length ≤ length request.behind → used.items ≡ request.used.items ++ take request.length request.behind
    → rest ≡ unparsed.buffer ++ drop request.length request.behind → m.content ≡ take request.length request.behind
    → new ≡ record unparsed { buffer = rest; progress = first_found (F.Message m) used }
    → IsFoundIn unparsed (request.used.items ++ (request.behind ++ unparsed.buffer)) new
keeps_body unparsed new request used rest m sized apart within used_is rest_is content_is new_is =
    let front = request.used.items in
    let body = take request.length request.behind in
    keeps_found (record unparsed { buffer = rest }) new (front ++ (request.behind ++ unparsed.buffer)) (F.Message m) used new_is
    (ap (λ l. l ++ rest) used_is
    ∙ (append_assoc front body rest ∙ ap (λ l. front ++ l) (ap (λ l. body ++ l) rest_is ∙ more_behind request.length request.behind unparsed.buffer apart within)))
    (subst (λ (l : List ℕ). IsRequestText unparsed.limit unparsed.continued l m) (sym used_is)
    (whole_request unparsed.limit unparsed.continued front body m sized.frame sized.begun
    (sized_body unparsed.limit sized.frame request.length request.behind m.content sized.size_is within content_is)))

-- the first bytes again, by how many they are
front_again : (n : ℕ) (bytes : List ℕ) → take (length (take n bytes)) bytes ≡ take n bytes
front_again zero bytes = refl
front_again (suc n) [] = refl
front_again (suc n) (byte ∷ bytes) = ap (λ l. byte ∷ l) (front_again n bytes)

-- what was copied from behind a head and what is left in the buffer
module _ (n size come : ℕ) (bytes behind rest : List ℕ) (behind_is : behind ≡ take size (drop n bytes)) (come_is : come ≡ length behind)
    (rest_is : rest ≡ drop (n + come) bytes) where
  rest_behind : rest ≡ drop come (drop n bytes)
  rest_behind = rest_is ∙ sym (drop-drop come n bytes)

  pub all_there : (used : List ℕ) → used ≡ take n bytes → used ++ (behind ++ rest) ≡ bytes
  all_there used used_is =
      let front : behind ≡ take come (drop n bytes) =
      behind_is ∙ (sym (front_again size (drop n bytes)) ∙ ap (λ k. take k (drop n bytes)) (sym (come_is ∙ ap length behind_is))) in
      ap (λ l. l ++ (behind ++ rest)) used_is
      ∙ (ap (λ l. take n bytes ++ (l ++ rest)) front ∙ (ap (λ l. take n bytes ++ (take come (drop n bytes) ++ l)) rest_behind
      ∙ (ap (λ l. take n bytes ++ l) (take-append-drop come (drop n bytes)) ∙ take-append-drop n bytes)))

  pub stands_apart : StandsApart size behind rest
  stands_apart = elim (cases_lt (length (drop n bytes)) size) as (λ _. StandsApart size behind rest) [
    | inl less ↦ (
        let count : length behind ≡ length (drop n bytes) = ap length (behind_is ∙ take_all size (drop n bytes) (omega (arith, less))) in
        inl (rest_behind ∙ drop_all come (drop n bytes) (omega (arith, count, come_is)))
        )
    | inr within ↦ inr (ap length behind_is ∙ length-take-le size (drop n bytes) within)
  ]

-- the bytes of a request in chunks that were used, and others behind them
pub keeps_chunked : (unparsed : Unparsed) (request : ChunkedRequest) → ReadsChunks unparsed.limit unparsed.continued request
    → KeepsBytes unparsed.limit unparsed.continued (request.used.items ++ unparsed.buffer) (record unparsed { progress = Chunked request })
keeps_chunked unparsed request reads = record { limit_is = refl; continued_is = refl; bytes_are = refl; known = reads }

-- the same with no others
pub keeps_used : (unparsed : Unparsed) (request : ChunkedRequest) (bytes : List ℕ) → ReadsChunks unparsed.limit unparsed.continued request → request.used.items ≡ bytes
    → KeepsBytes unparsed.limit unparsed.continued bytes (record unparsed { buffer = []; progress = Chunked request })
keeps_used unparsed request bytes reads same =
    record { limit_is = refl; continued_is = refl; bytes_are = append-nil request.used.items ∙ same; known = reads }

-- where memory is refused behind a head, nothing changes
pub unchanged : (unparsed : Unparsed) (first : FramedHead) → IsAtHead unparsed first
    → KeepsBytes unparsed.limit unparsed.continued unparsed.buffer unparsed × BeginsWithHead unparsed.buffer
unchanged unparsed first at = (
  keeps_fresh unparsed.limit unparsed.continued unparsed.buffer unparsed at.fresh refl refl refl,
  subst BeginsWithHead (take-append-drop first.length unparsed.buffer)
      (begins_with_head unparsed.limit unparsed.continued (take first.length unparsed.buffer) (drop first.length unparsed.buffer) first.head first.framing at.begun),
)

-- where memory is refused, the reading stands where it stood
pub stands_still : (unparsed new : Unparsed) (standing : Standing) (reading : Reading) → standing ≡ Live → reading_of standing unparsed ≡ reading
    → KeepsBytes unparsed.limit unparsed.continued (kept_bytes unparsed) new
    → (reading_of standing new ≡ reading) × (Open unparsed.continued (kept_bytes unparsed) ≡ reading.place)
stands_still unparsed new standing reading is_live was keeps =
    let is : reading_of Live unparsed ≡ reading = ap (λ (s : Standing). reading_of s unparsed) (sym is_live) ∙ was in
    let new_is : reading_of Live new ≡ reading_of Live unparsed =
    λ i. record { limit = keeps.limit_is i; place = Open (keeps.continued_is i) (keeps.bytes_are i); is_dead = false } in
    (ap (λ (s : Standing). reading_of s new) is_live ∙ (new_is ∙ is), ap (λ (r : Reading). r.place) is)
