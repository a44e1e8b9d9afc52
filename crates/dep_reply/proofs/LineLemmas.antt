-- A head whose texts break no line ends once, and is read as its lines.
use Rattle.std.proofs.Common.{◌≡◌, ◌==◌, ◌&&◌, not, nat_eq, ◌+◌, ◌/◌, ◌%◌, ◌≤◌, ℕ, zero, suc, Bool, true, false, nat_lt, ◌-◌, List, [], ◌∷◌, ◌++◌, length, Option, Some, None, codes, if◌then◌else◌, refl, sym, ap, subst, ◌∙◌, append_assoc, length-append, arith}
use Rattle.std.specs.Prelude.{IsTrue, IfSome, decimal, slice_index_or}
use Rattle.std.specs.List.{list_all, starts_with}
use Rattle.std.specs.Option.{option_map}
use Rattle.std.specs.Fmt.{digits, digits_onto, digit_glyph}
use Rattle.std.proofs.lemmas.List.{append-nil}
use Rattle.std.proofs.lemmas.List.Folds.{list_all-append}
use Rattle.std.proofs.lemmas.Bool.{and_parts}
use Rattle.std.proofs.lemmas.Bool.Decides.{nat_tests}
use Rattle.httpdate.specs.Calendar.{days_from_civil, weekday}
use Rattle.httpdate.specs.Text.{day_name, month_name, two_digits}
use Rattle.dep_moment.specs.Civil.{civil_of, http_text}
use Rattle.dep_head.specs.Head.{head_end, empty_line, EndsOnce}
use Rattle.dep_types.specs.Names.{is_media_byte, is_media}
use Rattle.dep_types.specs.Numbers.{quoted_tag}
use Rattle.dep_reply.specs.Head.{ReplyHead, phrase, line, status_and_phrase, status_line, field_text, optional_field, connection, head_text}
use Rattle.dep_reply.specs.Lines.{is_unbroken, IsUnbroken, field_lines, head_lines, lines_behind, lines_in}

-- neither CR nor LF
abbrev pub is_plain : ℕ → Bool
is_plain b = not (b == 13) && not (b == 10)

-- ---- texts that break no line

pub unbroken_both : (a b : List ℕ) → IsTrue (is_unbroken a) → IsTrue (is_unbroken b) → IsTrue (is_unbroken (a ++ b))
unbroken_both a b p q = list_all-append is_plain a b ∙ (λ i. p i && q i)

pub unbroken_if : (test : Bool) (a b : List ℕ) → IsTrue (is_unbroken a) → IsTrue (is_unbroken b) → IsTrue (is_unbroken (if test then a else b))
unbroken_if true a b p q = p
unbroken_if false a b p q = q

pub high_is_plain : (b : ℕ) → 14 ≤ b → IsTrue (is_plain b)
high_is_plain b h = grind (arith, nat_tests)

glyph_if : (test : Bool) (d : ℕ) → 14 ≤ (if test then 48 + d else (if false then 55 + d else 87 + d))
glyph_if true d = omega arith
glyph_if false d = omega arith

glyph_is_plain : (d : ℕ) → IsTrue (is_plain (digit_glyph false d))
glyph_is_plain d = high_is_plain (digit_glyph false d) (glyph_if (nat_lt d 10) d)

pub unbroken_cons : (b : ℕ) (text : List ℕ) → IsTrue (is_plain b) → IsTrue (is_unbroken text) → IsTrue (is_unbroken (b ∷ text))
unbroken_cons b text p q = (λ i. p i && q i)

unbroken_digits : (k n : ℕ) (acc : List ℕ) → IsTrue (is_unbroken acc) → IsTrue (is_unbroken (digits_onto k 10 false n acc))
unbroken_digits zero n acc p = p
unbroken_digits (suc k) n acc p =
    let more : IsTrue (is_unbroken (digit_glyph false (n % 10) ∷ acc)) = unbroken_cons (digit_glyph false (n % 10)) acc (glyph_is_plain (n % 10)) p in
    unbroken_if (n / 10 == 0) (digit_glyph false (n % 10) ∷ acc) (digits_onto k 10 false (n / 10) (digit_glyph false (n % 10) ∷ acc))
    more (unbroken_digits k (n / 10) (digit_glyph false (n % 10) ∷ acc) more)

pub unbroken_decimal : (n : ℕ) → IsTrue (is_unbroken (decimal n))
unfolding digits
unbroken_decimal n = unbroken_digits 64 n [] refl

unbroken_two : (n : ℕ) → IsTrue (is_unbroken (two_digits n))
unbroken_two n =
    unbroken_cons (48 + n / 10) ((48 + n % 10) ∷ []) (high_is_plain (48 + n / 10) (omega arith))
    (unbroken_cons (48 + n % 10) [] (high_is_plain (48 + n % 10) (omega arith)) refl)

-- one of some texts, or none
pub AllUnbroken : List (List ℕ) → Type 0
AllUnbroken [] = Unit {0}
AllUnbroken (text ∷ texts) = IsTrue (is_unbroken text) × AllUnbroken texts

unbroken_at : (texts : List (List ℕ)) (i : ℕ) → AllUnbroken texts → IsTrue (is_unbroken (slice_index_or texts i []))
unfolding AllUnbroken
unbroken_at [] i p = refl
unbroken_at (text ∷ texts) zero p = p.0
unbroken_at (text ∷ texts) (suc i) p = unbroken_at texts i p.1

unbroken_day : (n : ℕ) → IsTrue (is_unbroken (day_name n))
unfolding AllUnbroken
unbroken_day n =
    unbroken_at (codes "Mon" ∷ codes "Tue" ∷ codes "Wed" ∷ codes "Thu" ∷ codes "Fri" ∷ codes "Sat" ∷ codes "Sun" ∷ []) (n - 1)
    (refl, (refl, (refl, (refl, (refl, (refl, (refl, tt)))))))

unbroken_month : (n : ℕ) → IsTrue (is_unbroken (month_name n))
unfolding AllUnbroken
unbroken_month n =
    unbroken_at
    (codes "Jan" ∷ codes "Feb" ∷ codes "Mar" ∷ codes "Apr" ∷ codes "May" ∷ codes "Jun" ∷ codes "Jul" ∷ codes "Aug" ∷ codes "Sep" ∷ codes "Oct" ∷ codes "Nov" ∷ codes "Dec" ∷ [])
    (n - 1)
    (refl, (refl, (refl, (refl, (refl, (refl, (refl, (refl, (refl, (refl, (refl, (refl, tt))))))))))))

pub unbroken_date : (secs : ℕ) → IsTrue (is_unbroken (http_text secs))
unfolding http_text
unbroken_date secs =
    let c = civil_of secs in
    simp (
      list_all-append,
      unbroken_day (weekday (days_from_civil c.year c.month c.day)),
      unbroken_month c.month,
      unbroken_two c.day,
      unbroken_two (c.year / 100),
      unbroken_two (c.year % 100),
      unbroken_two c.hour,
      unbroken_two c.minute,
      unbroken_two c.second,
    )

phrase_is_unbroken : (status : ℕ) → IsTrue (is_unbroken (phrase status))
phrase_is_unbroken n =
    unbroken_if (n == 200) _ _ refl (unbroken_if (n == 201) _ _ refl (unbroken_if (n == 204) _ _ refl (unbroken_if (n == 400) _ _ refl
    (unbroken_if (n == 404) _ _ refl (unbroken_if (n == 405) _ _ refl (unbroken_if (n == 410) _ _ refl (unbroken_if (n == 412) _ _ refl
    (unbroken_if (n == 413) _ _ refl (unbroken_if (n == 415) _ _ refl (unbroken_if (n == 507) _ _ refl refl))))))))))

unbroken_status : (status : ℕ) → IsTrue (is_unbroken (status_and_phrase status))
unbroken_status n = simp (list_all-append, unbroken_decimal n, phrase_is_unbroken n)

unbroken_quoted : (tag : ℕ) → IsTrue (is_unbroken (quoted_tag tag))
unbroken_quoted tag = simp (list_all-append, unbroken_decimal tag)

-- ---- lines that are joined

pub joined_lines : List (List ℕ) → List ℕ
joined_lines [] = []
joined_lines (text ∷ texts) = text ++ 13 ∷ 10 ∷ joined_lines texts

-- a line that breaks no other and is not empty
pub record IsLine (text : List ℕ) : Type 0 where
  pub first : ℕ
  pub rest : List ℕ
  pub filled : text ≡ first ∷ rest
  pub unbroken : IsTrue (is_unbroken text)

pub AreLines : List (List ℕ) → Type 0
AreLines [] = Unit {0}
AreLines (text ∷ texts) = IsLine text × AreLines texts

are_both : (a b : List (List ℕ)) → AreLines a → AreLines b → AreLines (a ++ b)
unfolding AreLines
are_both [] b p q = q
are_both (text ∷ a) b p q = (p.0, are_both a b p.1 q)

-- ---- where they end

suc_map : (o : Option ℕ) (n : ℕ) → option_map suc (option_map (λ m. n + m) o) ≡ option_map (λ m. suc n + m) o
suc_map None n = refl
suc_map (Some m) n = ap (λ k. Some k) (omega arith)

none_map : (o : Option ℕ) → o ≡ option_map (λ m. 0 + m) o
none_map None = refl
none_map (Some m) = ap (λ k. Some k) (omega arith)

end_if : (test : Bool) (bytes : List ℕ) → test ≡ false → (if test then Some 4 else option_map suc (head_end bytes)) ≡ option_map suc (head_end bytes)
end_if true bytes e = cc
end_if false bytes e = refl

and_no : (a b : Bool) → a ≡ false → (a && b) ≡ false
and_no true b e = cc
and_no false b e = refl

differs : (b : ℕ) → IsTrue (is_plain b) → nat_eq 13 b ≡ false
differs b p = grind (arith, nat_tests)

skip_one : (b : ℕ) (bytes : List ℕ) → IsTrue (is_plain b) → head_end (b ∷ bytes) ≡ option_map suc (head_end bytes)
unfolding head_end
skip_one b bytes p = end_if (starts_with nat_eq (b ∷ bytes) empty_line) bytes (and_no (nat_eq 13 b) _ (differs b p))

pub skip_text : (text more : List ℕ) → IsTrue (is_unbroken text) → head_end (text ++ more) ≡ option_map (λ n. length text + n) (head_end more)
skip_text [] more p = none_map (head_end more)
skip_text (b ∷ text) more p =
    let h = and_parts (is_plain b) (is_unbroken text) p in
    skip_one b (text ++ more) h.0 ∙ (ap (option_map suc) (skip_text text more h.1) ∙ suc_map (head_end more) (length text))

-- CR LF before another line
skip_break : (b : ℕ) (bytes : List ℕ) → IsTrue (is_plain b) → head_end (13 ∷ 10 ∷ b ∷ bytes) ≡ option_map suc (option_map suc (head_end (b ∷ bytes)))
unfolding head_end
skip_break b bytes p =
    end_if (starts_with nat_eq (13 ∷ 10 ∷ b ∷ bytes) empty_line) (10 ∷ b ∷ bytes) (and_no (nat_eq 13 b) _ (differs b p))

-- the line, its end, and what stands behind
ends_line : (text more : List ℕ) (n : ℕ) → IsTrue (is_unbroken text) → head_end (13 ∷ 10 ∷ more) ≡ Some n → head_end (text ++ 13 ∷ 10 ∷ more) ≡ Some (length text + n)
ends_line text more n p e = skip_text text (13 ∷ 10 ∷ more) p ∙ ap (option_map (λ m. length text + m)) e

ends_last : (text : List ℕ) → IsTrue (is_unbroken text) → EndsOnce (text ++ 13 ∷ 10 ∷ 13 ∷ 10 ∷ [])
unfolding head_end
ends_last text p =
    ends_line text (13 ∷ 10 ∷ []) 4 p refl ∙ ap (λ k. Some k) (omega (arith, length-append text (13 ∷ 10 ∷ 13 ∷ 10 ∷ [])))

ends_before : (text : List ℕ) (b : ℕ) (rest : List ℕ) → IsTrue (is_unbroken text) → IsTrue (is_plain b) → EndsOnce (b ∷ rest) → EndsOnce (text ++ 13 ∷ 10 ∷ b ∷ rest)
ends_before text b rest p q e =
    ends_line text (b ∷ rest) (suc (suc (length (b ∷ rest)))) p (skip_break b rest q ∙ ap (λ o. option_map suc (option_map suc o)) e)
    ∙ ap (λ k. Some k) (omega (arith, length-append text (13 ∷ 10 ∷ b ∷ rest)))

first_plain : (b : ℕ) (rest text : List ℕ) → text ≡ b ∷ rest → IsTrue (is_unbroken text) → IsTrue (is_plain b)
first_plain b rest text e p = (and_parts (is_plain b) (is_unbroken rest) (subst (λ l. IsTrue (is_unbroken l)) e p)).0

-- lines and the empty one after them
pub ends_once : (text : List ℕ) (texts : List (List ℕ)) → IsLine text → AreLines texts → EndsOnce (joined_lines ((text ∷ texts) ++ [] ∷ []))
unfolding AreLines joined_lines
ends_once text [] l ls = ends_last text l.unbroken
ends_once text (next ∷ texts) l ls =
    let k = ls.0 in
    let behind = subst (λ (x : List ℕ). EndsOnce (x ++ 13 ∷ 10 ∷ joined_lines (texts ++ [] ∷ []))) k.filled (ends_once next texts k ls.1) in
    subst (λ (x : List ℕ). EndsOnce (text ++ 13 ∷ 10 ∷ (x ++ 13 ∷ 10 ∷ joined_lines (texts ++ [] ∷ [])))) (sym k.filled)
    (ends_before text k.first (k.rest ++ 13 ∷ 10 ∷ joined_lines (texts ++ [] ∷ [])) l.unbroken (first_plain k.first k.rest next k.filled k.unbroken) behind)

-- ---- how they are read

break_if : (test : Bool) (a b : List (List ℕ)) → test ≡ false → (if test then a else b) ≡ b
break_if true a b e = cc
break_if false a b e = refl

no_break : (b c : ℕ) → IsTrue (is_plain b) → (b == 13 && c == 10) ≡ false
no_break b c p = grind (arith, nat_tests)

reads_line : (front text more : List ℕ) → IsTrue (is_unbroken text) → lines_behind front (text ++ 13 ∷ 10 ∷ more) ≡ (front ++ text) ∷ lines_behind [] more
reads_line front [] more p = ap (λ l. l ∷ lines_behind [] more) (sym (append-nil front))
reads_line front (b ∷ []) more p =
    let h = and_parts (is_plain b) true p in
    break_if (b == 13 && 13 == 10) (front ∷ lines_behind [] (10 ∷ more)) (lines_behind (front ++ b ∷ []) (13 ∷ 10 ∷ more)) (no_break b 13 h.0)
    ∙ (reads_line (front ++ b ∷ []) [] more refl ∙ ap (λ l. l ∷ lines_behind [] more) (append-nil (front ++ b ∷ [])))
reads_line front (b ∷ c ∷ text) more p =
    let h = and_parts (is_plain b) (is_unbroken (c ∷ text)) p in
    break_if (b == 13 && c == 10) (front ∷ lines_behind [] (text ++ 13 ∷ 10 ∷ more)) (lines_behind (front ++ b ∷ []) (c ∷ text ++ 13 ∷ 10 ∷ more)) (no_break b c h.0)
    ∙ (reads_line (front ++ b ∷ []) (c ∷ text) more h.1 ∙ ap (λ l. l ∷ lines_behind [] more) (append_assoc front (b ∷ []) (c ∷ text)))

pub reads_lines : (texts : List (List ℕ)) → AllUnbroken texts → lines_in (joined_lines texts) ≡ texts
unfolding AllUnbroken joined_lines lines_in
reads_lines [] p = refl
reads_lines (text ∷ texts) p = reads_line [] text (joined_lines texts) p.0 ∙ ap (λ l. text ∷ l) (reads_lines texts p.1)

-- ---- the lines of a head

a_line : (name value : List ℕ) (b : ℕ) (rest : List ℕ) → name ≡ b ∷ rest → IsTrue (is_unbroken name) → IsTrue (is_unbroken value) → IsLine (field_text name value)
a_line name value b rest e p q = record {
  first = b;
  rest = rest ++ codes ": " ++ value;
  filled = ap (λ l. l ++ codes ": " ++ value) e;
  unbroken = unbroken_both (name ++ codes ": ") value (unbroken_both name (codes ": ") p refl) q;
}

given_line : (name : List ℕ) (o : Option (List ℕ)) (b : ℕ) (rest : List ℕ) → name ≡ b ∷ rest → IsTrue (is_unbroken name) → IfSome o (λ text. IsTrue (is_unbroken text))
    → AreLines (field_lines name o)
unfolding AreLines
given_line name None b rest e p q = tt
given_line name (Some value) b rest e p q = (a_line name value b rest e p q, tt)

unbroken_map : {A : Type 0} (f : A → List ℕ) (o : Option A) → ((x : A) → IsTrue (is_unbroken (f x))) → IfSome (option_map f o) (λ text. IsTrue (is_unbroken text))
unbroken_map f None h = tt
unbroken_map f (Some x) h = h x

closes_line : (b : Bool) → IfSome (connection b) (λ text. IsTrue (is_unbroken text))
closes_line true = refl
closes_line false = tt

-- all but the status and the empty line
abbrev pub date_lines : ReplyHead → List (List ℕ)
date_lines r = field_lines (codes "Date") (Some (http_text r.date))

abbrev pub type_lines : ReplyHead → List (List ℕ)
type_lines r = date_lines r ++ field_lines (codes "Content-Type") r.content_type

abbrev pub length_lines : ReplyHead → List (List ℕ)
length_lines r = type_lines r ++ field_lines (codes "Content-Length") (option_map decimal r.content_length)

abbrev pub tag_lines : ReplyHead → List (List ℕ)
tag_lines r = length_lines r ++ field_lines (codes "ETag") (option_map quoted_tag r.tag)

abbrev pub location_lines : ReplyHead → List (List ℕ)
location_lines r = tag_lines r ++ field_lines (codes "Location") r.location

abbrev pub allow_lines : ReplyHead → List (List ℕ)
allow_lines r = location_lines r ++ field_lines (codes "Allow") r.allow

abbrev pub own_lines : ReplyHead → List (List ℕ)
own_lines r = allow_lines r ++ field_lines (codes "Connection") (connection r.closes)

own_are_lines : (r : ReplyHead) → IsUnbroken r → AreLines (own_lines r)
own_are_lines r u =
    are_both (allow_lines r) (field_lines (codes "Connection") (connection r.closes))
    (are_both (location_lines r) (field_lines (codes "Allow") r.allow)
    (are_both (tag_lines r) (field_lines (codes "Location") r.location)
    (are_both (length_lines r) (field_lines (codes "ETag") (option_map quoted_tag r.tag))
    (are_both (type_lines r) (field_lines (codes "Content-Length") (option_map decimal r.content_length))
    (are_both (date_lines r) (field_lines (codes "Content-Type") r.content_type)
    (given_line (codes "Date") (Some (http_text r.date)) _ _ refl refl (unbroken_date r.date))
    (given_line (codes "Content-Type") r.content_type _ _ refl refl u.content_type))
    (given_line (codes "Content-Length") (option_map decimal r.content_length) _ _ refl refl (unbroken_map decimal r.content_length unbroken_decimal)))
    (given_line (codes "ETag") (option_map quoted_tag r.tag) _ _ refl refl (unbroken_map quoted_tag r.tag unbroken_quoted)))
    (given_line (codes "Location") r.location _ _ refl refl u.location))
    (given_line (codes "Allow") r.allow _ _ refl refl u.allow))
    (given_line (codes "Connection") (connection r.closes) _ _ refl refl (closes_line r.closes))

status_is_line : (status : ℕ) → IsLine (status_and_phrase status)
status_is_line status = record { first = 72; rest = _; filled = refl; unbroken = unbroken_status status }

-- ---- a head is its lines, joined

joined_both : (a b : List (List ℕ)) → joined_lines (a ++ b) ≡ joined_lines a ++ joined_lines b
unfolding joined_lines
joined_both [] b = refl
joined_both (text ∷ a) b =
    ap (λ l. text ++ 13 ∷ 10 ∷ l) (joined_both a b) ∙ sym (append_assoc text (13 ∷ 10 ∷ joined_lines a) (joined_lines b))

joined_given : (name : List ℕ) (o : Option (List ℕ)) → joined_lines (field_lines name o) ≡ optional_field name o
unfolding joined_lines
joined_given name None = refl
joined_given name (Some value) = refl

regroup : (s a b c d e f g h : List ℕ) → s ++ 13 ∷ 10 ∷ (((((((a ++ b) ++ c) ++ d) ++ e) ++ f) ++ g) ++ h)
    ≡ ((((((((s ++ 13 ∷ 10 ∷ []) ++ a) ++ b) ++ c) ++ d) ++ e) ++ f) ++ g) ++ h
regroup s a b c d e f g h = simp append_assoc

-- one field more
joined_next : (lines : List (List ℕ)) (bytes name : List ℕ) (o : Option (List ℕ)) → joined_lines lines ≡ bytes → joined_lines (lines ++ field_lines name o) ≡ bytes ++ optional_field name o
joined_next lines bytes name o e = joined_both lines (field_lines name o) ∙ (λ i. e i ++ joined_given name o i)

joined_own : (r : ReplyHead) → status_and_phrase r.status ++ 13 ∷ 10 ∷ joined_lines (own_lines r ++ [] ∷ []) ≡ head_text r
unfolding head_text status_line joined_lines
joined_own r =
    let date = joined_given (codes "Date") (Some (http_text r.date)) in
    let kind = joined_next (date_lines r) _ (codes "Content-Type") r.content_type date in
    let size = joined_next (type_lines r) _ (codes "Content-Length") (option_map decimal r.content_length) kind in
    let tag = joined_next (length_lines r) _ (codes "ETag") (option_map quoted_tag r.tag) size in
    let location = joined_next (tag_lines r) _ (codes "Location") r.location tag in
    let allow = joined_next (location_lines r) _ (codes "Allow") r.allow location in
    let own = joined_next (allow_lines r) _ (codes "Connection") (connection r.closes) allow in
    ap (λ l. status_and_phrase r.status ++ 13 ∷ 10 ∷ l) (joined_both (own_lines r) ([] ∷ []) ∙ ap (λ l. l ++ 13 ∷ 10 ∷ []) own)
    ∙ regroup (status_and_phrase r.status) (optional_field (codes "Date") (Some (http_text r.date))) (optional_field (codes "Content-Type") r.content_type)
    (optional_field (codes "Content-Length") (option_map decimal r.content_length)) (optional_field (codes "ETag") (option_map quoted_tag r.tag))
    (optional_field (codes "Location") r.location) (optional_field (codes "Allow") r.allow) (optional_field (codes "Connection") (connection r.closes)) (line [])

-- ---- the head as a whole

pub head_ends : (r : ReplyHead) → IsUnbroken r → EndsOnce (head_text r)
unfolding joined_lines
head_ends r u = subst EndsOnce (joined_own r) (ends_once (status_and_phrase r.status) (own_lines r) (status_is_line r.status) (own_are_lines r u))

all_unbroken : (texts : List (List ℕ)) → AreLines texts → AllUnbroken (texts ++ [] ∷ [])
unfolding AllUnbroken AreLines
all_unbroken [] p = (refl, tt)
all_unbroken (text ∷ texts) p = (p.0.unbroken, all_unbroken texts p.1)

pub head_reads : (r : ReplyHead) → IsUnbroken r → lines_in (head_text r) ≡ head_lines r
unfolding AllUnbroken joined_lines
head_reads r u =
    ap lines_in (sym (joined_own r))
    ∙ reads_lines (status_and_phrase r.status ∷ own_lines r ++ [] ∷ []) (unbroken_status r.status, all_unbroken (own_lines r) (own_are_lines r u))

media_is_plain : (b : ℕ) → IsTrue (is_media_byte b) → IsTrue (is_plain b)
media_is_plain b p = grind (arith, nat_tests)

media_bytes : (text : List ℕ) → IsTrue (list_all is_media_byte text) → IsTrue (is_unbroken text)
media_bytes [] p = refl
media_bytes (b ∷ text) p =
    let h = and_parts (is_media_byte b) (list_all is_media_byte text) p in
    unbroken_cons b text (media_is_plain b h.0) (media_bytes text h.1)

pub unbroken_media : (text : List ℕ) → IsTrue (is_media text) → IsTrue (is_unbroken text)
unbroken_media text p = media_bytes text (and_parts _ (list_all is_media_byte text) p).1
