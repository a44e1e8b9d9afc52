-- What the parser of URLs makes of a text breaks no line, so no base does.
use Rattle.std.proofs.Common.{bytes_eq, ◌≡◌, ◌==◌, ◌&&◌, not, ◌||◌, ◌+◌, ◌-◌, ◌/◌, ◌%◌, ◌≤◌, ℕ, zero, suc, Bool, true, false, List, [], ◌∷◌, ◌++◌, take, drop, length, Option, Some, None, Ok, Err, All, codes, nat_lt, if◌then◌else◌, refl, sym, subst, ◌∙◌, arith}
use Rattle.std.specs.Prelude.{IsTrue, decimal, slice_index, unwrap_or, is_some, option_map, flat_map}
use Rattle.std.specs.List.{list_any}
use Rattle.std.specs.Char.{digit_char, is_ascii_alphabetic}
use Rattle.std.specs.Result.{result_map_both}
use Rattle.std.specs.Int.{w32, to_be_bytes}
use Rattle.std.specs.Net.Text.{ipv4_text, hex, leading_zero_digits, groups_text, longest_zero_run, hex_groups_text}
use Rattle.std.proofs.lemmas.Bool.{and_parts}
use Rattle.std.proofs.lemmas.Bool.Decides.{nat_tests}
use Rattle.std.proofs.lemmas.List.Elements.{All-head, All-tail, All-weaker}
use Rattle.std.proofs.lemmas.List.Folds.{list_all-append}
use Rattle.percent_encoding.specs.declared.ascii_set.AsciiSet.{AsciiSet}
use Rattle.percent_encoding.specs.declared.ascii_set.TheConstants.{CONTROLS}
use Rattle.percent_encoding.specs.Percent.{IsKept, percent_encode, percent_decode}
use Rattle.percent_encoding.proofs.PercentLemmas.{IsEscapeByte, All-percent_encode}
use Rattle.url.specs.declared.sets.TheConstants.{USERINFO, PATH, OPAQUE_PATH, QUERY, SPECIAL_QUERY, FRAGMENT, FORBIDDEN_DOMAIN}
use Rattle.url.specs.declared.error.ParseError.{ParseError}
use Rattle.url.specs.declared.host.Host.{Host}
use Rattle.url.specs.declared.host.Host.TheVariants.{Domain, Ipv4, Ipv6}
use Rattle.url.specs.declared.scheme.SchemeType.{SchemeType}
use Rattle.url.specs.declared.scheme.SchemeType.TheVariants.{File, SpecialNotFile, NotSpecial}
use Rattle.url.specs.Input.{is_empty, when, rsplit_step, rsplit_once, lowercase}
use Rattle.url.specs.Scheme.{scheme_type, is_special, is_file, is_slash}
use Rattle.url.specs.Host.{host_text, host_of_ascii, ascii_domain, ipv4_host, ipv6_host, parse_bracketed, parse_special_host, parse_opaque_host, parse_file_host, parse_host, without_localhost, is_forbidden_in_domain, is_forbidden_in_host}
use Rattle.url.specs.Ipv4.{ends_in_a_number, parse_ipv4}
use Rattle.url.specs.Path.{ends_in_space, escape_end, segment_len, dot_count, is_windows_drive_letter, is_normalized_windows_drive_letter, shorten_path, segment_text, push_segment, parse_segments, parse_path, parse_path_start}
use Rattle.url.specs.Parts.{Parts, kind_of, has_authority, has_credentials, needs_guard, host_or_empty, serialize}
use Rattle.url.specs.Head.{scheme_only}
use Rattle.url.specs.Parser.{Parsed, and_then, lacks_host, split_port, parse_port, parse_authority, with_path, leading_slashes, skip_slashes, after_double_slash, parse_non_special, file_with_host, after_file_double_slash, parse_file, parse_body, with_tail, before_tail, parse_by_scheme, parse_parts, parse_url}
use Rattle.url.proofs.SetLemmas.{outside_pass, passes_from_kept}
use Rattle.url.proofs.HostLemmas.{none_from_list_any}
use Rattle.dep_types.specs.Base.{IsBase}
use Rattle.dep_reply.specs.Lines.{is_unbroken}
use Rattle.dep_reply.proofs.LineLemmas.{is_plain, unbroken_both, unbroken_if, unbroken_cons, high_is_plain, unbroken_decimal}

abbrev Plain : ℕ → Type 0
Plain b = IsTrue (is_plain b)

abbrev Unbroken : List ℕ → Type 0
Unbroken text = IsTrue (is_unbroken text)

from_all : (xs : List ℕ) → All Plain xs → Unbroken xs
from_all [] a = refl
from_all (x ∷ xs) a = unbroken_cons x xs (All-head Plain x xs a) (from_all xs (All-tail Plain x xs a))

kept_are_plain : (set : AsciiSet) → outside_pass set is_plain ≡ true → (xs : List ℕ) → All (IsKept set) xs → Unbroken xs
kept_are_plain set e xs a = from_all xs (All-weaker (IsKept set) Plain (passes_from_kept set is_plain e) xs a)

escape_is_plain : (b : ℕ) → IsEscapeByte b → Plain b
escape_is_plain b escape = grind (arith, nat_tests)

encoded : (set : AsciiSet) → outside_pass set is_plain ≡ true → (xs : List ℕ) → Unbroken (percent_encode set xs)
encoded set e xs = from_all (percent_encode set xs) (All-percent_encode Plain set xs (passes_from_kept set is_plain e) escape_is_plain)

dropped : (n : ℕ) (xs : List ℕ) → Unbroken xs → Unbroken (drop n xs)
dropped zero xs u = u
dropped (suc n) [] u = u
dropped (suc n) (x ∷ xs) u = dropped n xs (and_parts (is_plain x) (is_unbroken xs) u).1

taken : (n : ℕ) (xs : List ℕ) → Unbroken xs → Unbroken (take n xs)
taken zero xs u = refl
taken (suc n) [] u = u
taken (suc n) (x ∷ xs) u = let h = and_parts (is_plain x) (is_unbroken xs) u in unbroken_cons x (take n xs) h.0 (taken n xs h.1)

in_when : (test : Bool) (xs : List ℕ) → Unbroken xs → Unbroken (when test xs)
in_when test xs u = unbroken_if test xs [] u refl

-- ---- results of the parser

ok_then : {A B P : Type 0} (r : Parsed A) (next : A → Parsed B) (y : B) → and_then r next ≡ Ok y → ((x : A) → r ≡ Ok x → next x ≡ Ok y → P) → P
ok_then (Ok x) next y e k = k x refl e
ok_then (Err d) next y e k = cc

past_error : {A : Type 0} (test : Bool) (d : ParseError) (r : Parsed A) (y : A) → (if test then Err d else r) ≡ Ok y → (test ≡ false) × (r ≡ Ok y)
past_error true d r y e = cc
past_error false d r y e = (refl, e)

by_test : {A P : Type 0} (test : Bool) (r s : Parsed A) (y : A) → (if test then r else s) ≡ Ok y → (r ≡ Ok y → P) → (s ≡ Ok y → P) → P
by_test true r s y e k l = k e
by_test false r s y e k l = l e

same_ok : {A : Type 0} (x y : A) → ◌≡◌ {A = Parsed A} (Ok x) (Ok y) → x ≡ y
same_ok x y e = cc

-- ---- hosts

glyph_if : (test : Bool) (d : ℕ) → 14 ≤ (if test then 48 + d else 87 + d)
glyph_if true d = omega arith
glyph_if false d = omega arith

digit_is_plain : (d : ℕ) → Plain (digit_char d)
digit_is_plain d = high_is_plain (digit_char d) (glyph_if (nat_lt d 10) d)

unbroken_hex : (n : ℕ) → Unbroken (hex n)
unfolding hex
unbroken_hex n =
    let a = digit_char (n / 0x1000) in
    let b = digit_char (n / 0x100 % 16) in
    let c = digit_char (n / 0x10 % 16) in
    let d = digit_char (n % 16) in
    dropped (leading_zero_digits n) (a ∷ b ∷ c ∷ d ∷ [])
    (unbroken_cons a (b ∷ c ∷ d ∷ []) (digit_is_plain (n / 0x1000)) (unbroken_cons b (c ∷ d ∷ []) (digit_is_plain (n / 0x100 % 16))
    (unbroken_cons c (d ∷ []) (digit_is_plain (n / 0x10 % 16)) (unbroken_cons d [] (digit_is_plain (n % 16)) refl))))

more_groups : (rest : List ℕ) → Unbroken (flat_map (λ t. codes ":" ++ hex t) rest)
more_groups [] = refl
more_groups (t ∷ rest) = unbroken_both (codes ":" ++ hex t) (flat_map (λ s. codes ":" ++ hex s) rest) (unbroken_both (codes ":") (hex t) refl (unbroken_hex t)) (more_groups rest)

unbroken_groups : (segments : List ℕ) → Unbroken (groups_text segments)
unbroken_groups [] = refl
unbroken_groups (s ∷ rest) = unbroken_both (hex s) (flat_map (λ t. codes ":" ++ hex t) rest) (unbroken_hex s) (more_groups rest)

unbroken_hex_groups : (segments : List ℕ) → Unbroken (hex_groups_text segments)
unfolding hex_groups_text
unbroken_hex_groups segments =
    let run = longest_zero_run segments in
    let front = groups_text (take run.0 segments) in
    let back = groups_text (drop (run.0 + run.1) segments) in
    unbroken_if (nat_lt 1 run.1) (front ++ codes "::" ++ back) (groups_text segments)
    (unbroken_both (front ++ codes "::") back (unbroken_both front (codes "::") (unbroken_groups (take run.0 segments)) refl) (unbroken_groups (drop (run.0 + run.1) segments)))
    (unbroken_groups segments)

unbroken_ipv4 : (o : List ℕ) → Unbroken (ipv4_text o)
unbroken_ipv4 o =
    simp (list_all-append, unbroken_decimal (slice_index o 0), unbroken_decimal (slice_index o 1), unbroken_decimal (slice_index o 2), unbroken_decimal (slice_index o 3))

-- the text of the host breaks no line
record IsPlainHost (host : Host (List ℕ)) : Type 0 where
  pub is : Unbroken (host_text host)

ipv4_plain : (o : Option ℕ) (h : Host (List ℕ)) → ipv4_host o ≡ Ok h → IsPlainHost h
ipv4_plain None h e = cc
ipv4_plain (Some bits) h e = subst IsPlainHost (same_ok _ h e) (record { is = unbroken_ipv4 (to_be_bytes w32 bits) })

ipv6_plain : (o : Option (List ℕ)) (h : Host (List ℕ)) → ipv6_host o ≡ Ok h → IsPlainHost h
ipv6_plain None h e = cc
ipv6_plain (Some segments) h e =
    subst IsPlainHost (same_ok (Ipv6 (record { segments = segments })) h e)
    (record { is = unbroken_both (codes "[" ++ hex_groups_text segments) (codes "]") (unbroken_both (codes "[") (hex_groups_text segments) refl (unbroken_hex_groups segments)) refl })

ascii_plain : (o : Option (List ℕ)) (h : Host (List ℕ)) → host_of_ascii o ≡ Ok h → IsPlainHost h
ascii_plain None h e = cc
ascii_plain (Some d) h e =
    let some = past_error (is_empty d) _ _ h e in
    let allowed = past_error (list_any is_forbidden_in_domain d) _ _ h some.1 in
    by_test (ends_in_a_number d) _ _ h allowed.1
    (λ k. ipv4_plain (parse_ipv4 d) h k)
    (λ k. subst IsPlainHost (same_ok (Domain d) h k) (record { is = kept_are_plain FORBIDDEN_DOMAIN refl d (none_from_list_any is_forbidden_in_domain d allowed.0) }))

bracketed_plain : (bytes : List ℕ) (h : Host (List ℕ)) → parse_bracketed bytes ≡ Ok h → IsPlainHost h
unfolding parse_bracketed
bracketed_plain bytes h e = by_test (slice_index bytes (length bytes - 1) == 93) _ _ h e (λ k. ipv6_plain _ h k) (λ k. cc)

special_plain : (bytes : List ℕ) (h : Host (List ℕ)) → parse_special_host bytes ≡ Ok h → IsPlainHost h
unfolding parse_special_host
special_plain bytes h e =
    by_test (slice_index bytes 0 == 91) _ _ h e (λ k. bracketed_plain bytes h k) (λ k. ascii_plain (ascii_domain (percent_decode bytes)) h k)

opaque_plain : (bytes : List ℕ) (h : Host (List ℕ)) → parse_opaque_host bytes ≡ Ok h → IsPlainHost h
unfolding parse_opaque_host
opaque_plain bytes h e =
    by_test (slice_index bytes 0 == 91) _ _ h e (λ k. bracketed_plain bytes h k)
    (λ k. subst IsPlainHost (same_ok (Domain (percent_encode CONTROLS bytes)) h (past_error (list_any is_forbidden_in_host bytes) _ _ h k).1) (record { is = encoded CONTROLS refl bytes }))

not_local : (h : Host (List ℕ)) → IsPlainHost h → IsPlainHost (without_localhost h)
not_local (Domain d) p = record { is = unbroken_if (bytes_eq d (codes "localhost")) [] d refl p.is }
not_local (Ipv4 a) p = p
not_local (Ipv6 a) p = p

local_plain : (r : Parsed (Host (List ℕ))) (h : Host (List ℕ)) → ((x : Host (List ℕ)) → r ≡ Ok x → IsPlainHost x) → result_map_both without_localhost (λ e. e) r ≡ Ok h → IsPlainHost h
local_plain (Ok x) h k e = subst IsPlainHost (same_ok (without_localhost x) h e) (not_local x (k x refl))
local_plain (Err d) h k e = cc

file_plain : (bytes : List ℕ) (h : Host (List ℕ)) → parse_file_host bytes ≡ Ok h → IsPlainHost h
unfolding parse_file_host
file_plain bytes h e =
    by_test (is_empty bytes) _ _ h e (λ k. subst IsPlainHost (same_ok (Domain []) h k) (record { is = refl }))
    (λ k. local_plain (parse_special_host bytes) h (special_plain bytes) k)

host_plain : (kind : SchemeType) (bytes : List ℕ) (h : Host (List ℕ)) → parse_host kind bytes ≡ Ok h → IsPlainHost h
host_plain File bytes h e = file_plain bytes h e
host_plain SpecialNotFile bytes h e = special_plain bytes h e
host_plain NotSpecial bytes h e = opaque_plain bytes h e

-- ---- paths

step_front : (b : ℕ) (o : Option (List ℕ)) (back : List ℕ) → Plain b → Unbroken (unwrap_or o []) → Unbroken (unwrap_or (rsplit_step 47 b o back).0 [])
step_front b (Some front) back p u = unbroken_cons b front p u
step_front b None back p u = none_front (b == 47)
  where
    none_front : (test : Bool) → Unbroken (unwrap_or (if◌then◌else◌ {A = Option (List ℕ) × List ℕ} test (Some [], back) (None, b ∷ back)).0 [])
    none_front true = refl
    none_front false = refl

front_unbroken : (xs : List ℕ) → Unbroken xs → Unbroken (unwrap_or (rsplit_once 47 xs).0 [])
unfolding rsplit_once
front_unbroken [] u = refl
front_unbroken (b ∷ xs) u =
    let h = and_parts (is_plain b) (is_unbroken xs) u in
    step_front b (rsplit_once 47 xs).0 (rsplit_once 47 xs).1 h.0 (front_unbroken xs h.1)

shortened : (kind : SchemeType) (path : List ℕ) → Unbroken path → Unbroken (shorten_path kind path)
unfolding shorten_path
shortened kind path u =
    unbroken_if (is_file kind && length path == 3 && is_normalized_windows_drive_letter (drop 1 path)) path (unwrap_or (rsplit_once 47 path).0 []) u
    (front_unbroken path u)

letter_is_plain : (b : ℕ) → IsTrue (is_ascii_alphabetic b) → Plain b
letter_is_plain b p = grind (arith, nat_tests)

text_if : (test drive : Bool) (kind : SchemeType) (letter : ℕ) (segment : List ℕ) → (test ≡ true → IsTrue (is_ascii_alphabetic letter))
    → Unbroken (if test then letter ∷ 58 ∷ [] else percent_encode PATH segment)
text_if true drive kind letter segment k = unbroken_cons letter (58 ∷ []) (letter_is_plain letter (k refl)) refl
text_if false drive kind letter segment k = encoded PATH refl segment

text_unbroken : (kind : SchemeType) (path segment : List ℕ) → Unbroken (segment_text kind path segment)
unfolding is_windows_drive_letter
text_unbroken kind path segment =
    text_if (is_file kind && is_empty path && is_windows_drive_letter segment) true kind (slice_index segment 0) segment
    (λ e. (and_parts _ (is_ascii_alphabetic (slice_index segment 0)) (and_parts _ _ (and_parts (is_file kind && is_empty path) _ e).1).0).1)

pushed : (kind : SchemeType) (path segment : List ℕ) (is_last : Bool) → Unbroken path → Unbroken (push_segment kind path segment is_last)
unfolding push_segment
pushed kind path segment is_last u =
    let ending = when is_last (47 ∷ []) in
    let next = path ++ 47 ∷ segment_text kind path segment in
    let last = in_when is_last (47 ∷ []) refl in
    unbroken_if (dot_count segment == 2) (shorten_path kind path ++ ending) (if dot_count segment == 1 then path ++ ending else next)
    (unbroken_both (shorten_path kind path) ending (shortened kind path u) last)
    (unbroken_if (dot_count segment == 1) (path ++ ending) next (unbroken_both path ending u last)
    (unbroken_both path (47 ∷ segment_text kind path segment) u (unbroken_cons 47 (segment_text kind path segment) refl (text_unbroken kind path segment))))

segments_unbroken : (kind : SchemeType) (bytes path segment : List ℕ) → Unbroken path → Unbroken (parse_segments kind path segment bytes)
unfolding parse_segments
segments_unbroken kind [] path segment u = pushed kind path segment true u
segments_unbroken kind (b ∷ bytes) path segment u =
    unbroken_if (is_slash kind b) (parse_segments kind (push_segment kind path segment false) [] bytes) (parse_segments kind path (segment ++ b ∷ []) bytes)
    (segments_unbroken kind bytes (push_segment kind path segment false) [] (pushed kind path segment false u))
    (segments_unbroken kind bytes path (segment ++ b ∷ []) u)

start_unbroken : (kind : SchemeType) (path bytes : List ℕ) → Unbroken path → Unbroken (parse_path_start kind path bytes)
unfolding parse_path_start
start_unbroken kind path bytes u =
    let next = parse_path kind path (drop 1 bytes) in
    let rest = parse_path kind path bytes in
    let slash = is_slash kind (slice_index bytes 0) in
    unbroken_if (is_empty bytes && not (is_special kind)) path (if slash then next else rest) u
    (unbroken_if slash next rest (segments_unbroken kind (drop 1 bytes) path [] u) (segments_unbroken kind bytes path [] u))

-- ---- the parts of a URL

record IsClean (url : Parts) : Type 0 where
  pub username : Unbroken url.username
  pub password : Unbroken url.password
  pub host : Unbroken (host_text (host_or_empty url))
  pub path : Unbroken url.path

clean_authority : (scheme bytes : List ℕ) (head : Parts) → parse_authority scheme bytes ≡ Ok head → IsClean head
unfolding parse_authority
clean_authority scheme bytes head e =
    let port = split_port (rsplit_once 64 bytes).1 in
    ok_then (parse_host (scheme_type scheme) port.0) _ head (past_error (lacks_host (rsplit_once 64 bytes).0 port.0 port.1) _ _ head e).1 λ host read e₁.
    ok_then (parse_port scheme (unwrap_or port.1 [])) _ head e₁ λ number got e₂.
    subst IsClean (same_ok _ head e₂) (record {
      username = encoded USERINFO refl _;
      password = encoded USERINFO refl _;
      host = (host_plain (scheme_type scheme) port.0 host read).is;
      path = refl;
    })

clean_path : (head : Parts) (path : List ℕ) → IsClean head → Unbroken path → IsClean (with_path head path)
clean_path head path h u = record { username = h.username; password = h.password; host = h.host; path = u }

clean_slashes : (scheme bytes : List ℕ) (url : Parts) → after_double_slash scheme bytes ≡ Ok url → IsClean url
unfolding after_double_slash
clean_slashes scheme bytes url e =
    let kind = scheme_type scheme in
    let len = segment_len kind bytes in
    ok_then (parse_authority scheme (take len bytes)) _ url e λ head read e₁.
    subst IsClean (same_ok _ url e₁) (clean_path head _ (clean_authority scheme (take len bytes) head read) (start_unbroken kind [] (drop len bytes) refl))

clean_scheme : (scheme : List ℕ) → IsClean (scheme_only scheme)
clean_scheme scheme = record { username = refl; password = refl; host = refl; path = refl }

clean_file_host : (host : Host (List ℕ)) → IsPlainHost host → IsClean (file_with_host host)
clean_file_host host p = record { username = encoded USERINFO refl []; password = encoded USERINFO refl []; host = p.is; path = refl }

clean_non_special : (scheme body : List ℕ) (url : Parts) → parse_non_special scheme body ≡ Ok url → IsClean url
unfolding parse_non_special
clean_non_special scheme body url e =
    by_test (leading_slashes NotSpecial body == 2) _ _ url e (λ k. clean_slashes scheme (drop 2 body) url k) λ k.
    by_test (leading_slashes NotSpecial body == 1) _ _ url k
    (λ l. subst IsClean (same_ok _ url l) (clean_path (scheme_only scheme) _ (clean_scheme scheme) (segments_unbroken NotSpecial (drop 1 body) [] [] refl)))
    (λ l. subst IsClean (same_ok _ url l) (clean_path (scheme_only scheme) _ (clean_scheme scheme) (encoded OPAQUE_PATH refl body)))

clean_file_slashes : (bytes : List ℕ) (url : Parts) → after_file_double_slash bytes ≡ Ok url → IsClean url
unfolding after_file_double_slash
clean_file_slashes bytes url e =
    let len = segment_len File bytes in
    by_test (is_windows_drive_letter (take len bytes)) _ _ url e
    (λ k. subst IsClean (same_ok _ url k) (clean_path (file_with_host (Domain [])) _ (clean_file_host (Domain []) (record { is = refl })) (segments_unbroken File bytes [] [] refl))) λ k.
    ok_then (parse_file_host (take len bytes)) _ url k λ host read l.
    subst IsClean (same_ok _ url l) (clean_path (file_with_host host) _ (clean_file_host host (file_plain (take len bytes) host read)) (start_unbroken File [] (drop len bytes) refl))

clean_file : (body : List ℕ) (url : Parts) → parse_file None body ≡ Ok url → IsClean url
unfolding parse_file
clean_file body url e =
    by_test (leading_slashes File body == 2) _ _ url e (λ k. clean_file_slashes _ url k)
    (λ k. subst IsClean (same_ok _ url k) (clean_path (file_with_host (Domain [])) _ (clean_file_host (Domain []) (record { is = refl })) (segments_unbroken File (drop (leading_slashes File body) body) [] [] refl)))

clean_body : (scheme body : List ℕ) (url : Parts) → parse_body scheme None body ≡ Ok url → IsClean url
unfolding parse_body
clean_body scheme body url e =
    by_test (is_file (scheme_type scheme)) _ _ url e (λ k. clean_file body url k) λ k.
    by_test (is_special (scheme_type scheme)) _ _ url k (λ l. clean_slashes scheme (skip_slashes body) url l) (λ l. clean_non_special scheme body url l)

-- ---- the whole

unbroken_tail : (set : AsciiSet) (o : Option (List ℕ)) → outside_pass set is_plain ≡ true → Unbroken (unwrap_or (option_map (percent_encode set) o) [])
unbroken_tail set None e = refl
unbroken_tail set (Some text) e = encoded set e text

query_if : (special : Bool) (o : Option (List ℕ)) → Unbroken (unwrap_or (option_map (percent_encode (if special then SPECIAL_QUERY else QUERY)) o) [])
query_if true o = unbroken_tail SPECIAL_QUERY o refl
query_if false o = unbroken_tail QUERY o refl

clean_if : (test : Bool) (a b : Parts) → IsClean a → IsClean b → IsClean (if test then a else b)
clean_if true a b p q = p
clean_if false a b p q = q

clean_end : (url : Parts) (query fragment : Option (List ℕ)) → IsClean url → IsClean (before_tail url query fragment)
clean_end url query fragment h =
    clean_if (not (is_special (kind_of url)) && (is_some query || is_some fragment)) (with_path url (escape_end url.path)) url
    (clean_path url (escape_end url.path) h (unbroken_if (ends_in_space url.path) (take (length url.path - 1) url.path ++ codes "%20") url.path (unbroken_both (take (length url.path - 1) url.path) (codes "%20") (taken (length url.path - 1) url.path h.path) refl) h.path)) h

unbroken_port : (o : Option ℕ) → Unbroken (unwrap_or (option_map decimal o) [])
unbroken_port None = refl
unbroken_port (Some n) = unbroken_decimal n

unbroken_text : (url : Parts) → IsClean url → Unbroken url.scheme → Unbroken (unwrap_or url.query []) → Unbroken (unwrap_or url.fragment []) → Unbroken (serialize url)
unbroken_text url h scheme query fragment =
    simp (
      list_all-append,
      scheme,
      unbroken_if (has_authority url) (codes "://") (codes ":") refl refl,
      h.username,
      in_when (not (is_empty url.password)) (codes ":") refl,
      h.password,
      in_when (has_credentials url) (codes "@") refl,
      h.host,
      in_when (is_some url.port) (codes ":") refl,
      unbroken_port url.port,
      in_when (needs_guard url) (codes "/.") refl,
      h.path,
      in_when (is_some url.query) (codes "?") refl,
      query,
      in_when (is_some url.fragment) (codes "#") refl,
      fragment,
    )

whole_text : (scheme body : List ℕ) (query fragment : Option (List ℕ)) (url : Parts) → parse_parts scheme None body query fragment ≡ Ok url → Unbroken url.scheme → Unbroken (serialize url)
unfolding parse_parts
whole_text scheme body query fragment url e u =
    ok_then (parse_body scheme None body) _ url e λ parts read e₁.
    let ended = before_tail parts query fragment in
    let same = same_ok (with_tail ended query fragment) url e₁ in
    let clean = clean_end parts query fragment (clean_body scheme body parts read) in
    subst (λ (x : Parts). Unbroken (serialize x)) same
    (unbroken_text (with_tail ended query fragment) (record { username = clean.username; password = clean.password; host = clean.host; path = clean.path })
    (subst (λ (x : Parts). Unbroken x.scheme) (sym same) u) (query_if (is_special (kind_of ended)) query) (unbroken_tail FRAGMENT fragment refl))

by_scheme : (split : Option (List ℕ × List ℕ)) (body : List ℕ) (query fragment : Option (List ℕ)) (url : Parts) → parse_by_scheme split None body query fragment ≡ Ok url
    → Unbroken url.scheme → Unbroken (serialize url)
by_scheme None body query fragment url e u = cc
by_scheme (Some split) body query fragment url e u = whole_text (lowercase split.0) split.1 query fragment url e u

parsed_text : (input : List ℕ) (url : Parts) → parse_url None input ≡ Ok url → Unbroken url.scheme → Unbroken (serialize url)
unfolding parse_url
parsed_text input url e u = by_scheme _ _ _ _ url e u

pub unbroken_base : (text : List ℕ) → IsBase text → IsTrue (is_unbroken text)
unbroken_base text b =
    let whole = parsed_text text b.url b.reads (subst (λ (s : List ℕ). Unbroken s) (sym b.scheme) refl) in
    let joined : Unbroken (text ++ codes "/") = subst (λ (s : List ℕ). Unbroken s) b.spelled whole in
    (and_parts (is_unbroken text) (is_unbroken (codes "/")) (sym (list_all-append is_plain text (codes "/")) ∙ joined)).0
