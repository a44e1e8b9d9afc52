-- What the links of a status document, and the numbers of an upload, are read as.
use Rattle.std.proofs.Common.{◌≡◌, ◌+◌, ◌<◌, ◌≤◌, ◌^◌, ℕ, zero, suc, Bool, true, false, cond, List, [], ◌∷◌, ◌++◌, map, min, Some, None, IsUtf8, refl, arith, lt-ltb}
use Rattle.std.specs.Prelude.{IfSome, filter}
use Rattle.std.specs.List.{AllByRecursion, range_with_len}
use Rattle.std.proofs.lemmas.Bool.{and_from}
use Rattle.std.proofs.lemmas.Str.{IsUtf8-from_ascii}
use Rattle.dep_types.specs.Limits.{greatest_moment}
use Rattle.dep_moment.proofs.Ascii.{rfc3339-ascii}
use Rattle.dep_types.specs.declared.config.Config.{Config}
use Rattle.dep_types.specs.declared.rows.FileRow.{FileRow}
use Rattle.dep_docs_out.specs.Documents.{file_url, link_data, deposit_members, behalf_members, kept_members, relations_data, deposit_relation}
use Rattle.dep_docs_out.specs.Json.{sorted_object, items, members_from, whole_number}
use Rattle.dep_docs_out.specs.ReadBack.{FileHasTexts}
use Rattle.dep_docs_out.proofs.ReadingBack.{is_plain, are_plain}
use Rattle.dep_docs_out.proofs.Utf8.{HasUtf8, ItemsHaveUtf8, MembersHaveUtf8, IsText, decimal_utf8, is_text}
use Rattle.dep_docs_out.proofs.PartsReadBack.{file_url_utf8}

-- ---- links

link_plain : (config : Config) (n : ℕ) (file : FileRow) → is_plain (link_data config n file) 2 ≡ true
unfolding link_data deposit_members kept_members relations_data
link_plain config n file = elim file.behalf as (λ b. is_plain (sorted_object (deposit_members config (file_url config n file.file) file ++ behalf_members b ++ kept_members file)) 2 ≡ true) [
  | None ↦ refl
  | Some name ↦ refl
]

pub links_plain : (config : Config) (n : ℕ) (files : List FileRow) → are_plain (items (map (link_data config n) files)) 2 ≡ true
links_plain config n [] = refl
links_plain config n (file ∷ files) = and_from _ _ (link_plain config n file) (links_plain config n files)

relation_text : (by_reference : Bool) → IsText (deposit_relation by_reference)
relation_text true = tt
relation_text false = tt

link_utf8 : (config : Config) (n : ℕ) (file : FileRow) → IsUtf8 config.base → IsUtf8 config.depositor → FileHasTexts file → HasUtf8 (link_data config n file)
unfolding link_data deposit_members kept_members relations_data
link_utf8 config n file base depositor texts =
    let place = is_text (file_url config n file.file) (file_url_utf8 config n file.file base) in
    let media = is_text file.media texts.media in
    let by = is_text config.depositor depositor in
    let on = is_text _ (IsUtf8-from_ascii _ (rfc3339-ascii (min file.deposited greatest_moment) (omega arith))) in
    let tag = is_text _ (decimal_utf8 file.tag) in
    let kept : MembersHaveUtf8 (members_from (kept_members file)) = (tt, tag, (tt, tt, (tt, (relation_text file.by_reference, (tt, tt)), (tt, tt, tt)))) in
    elim file.behalf as (λ b. IfSome b (λ name. IsUtf8 name) → HasUtf8 (sorted_object (deposit_members config (file_url config n file.file) file ++ behalf_members b ++ kept_members file))) [
      | None ↦ λ h. (tt, place, (tt, media, (tt, by, (tt, on, kept))))
      | Some name ↦ λ h. (tt, place, (tt, media, (tt, by, (tt, on, (tt, is_text name h, kept)))))
    ] texts.behalf

pub links_utf8 : (config : Config) (n : ℕ) (files : List FileRow) → IsUtf8 config.base → IsUtf8 config.depositor → AllByRecursion FileHasTexts files
    → ItemsHaveUtf8 (items (map (link_data config n) files))
links_utf8 config n [] base depositor h = tt
links_utf8 config n (file ∷ files) base depositor h = (link_utf8 config n file base depositor h.0, links_utf8 config n files base depositor h.1)

-- ---- numbers

pub numbers_plain : (ks : List ℕ) (n : ℕ) → AllByRecursion (λ k. k < 2 ^ 64) ks → are_plain (items (map whole_number ks)) n ≡ true
numbers_plain [] n h = refl
numbers_plain (k ∷ ks) n h = and_from _ _ (lt-ltb k (2 ^ 64) h.0) (numbers_plain ks n h.1)

pub numbers_utf8 : (ks : List ℕ) → ItemsHaveUtf8 (items (map whole_number ks))
numbers_utf8 [] = tt
numbers_utf8 (k ∷ ks) = (tt, numbers_utf8 ks)

pub numbers_below : (p : ℕ → Bool) (a n most : ℕ) → a + n ≤ most → AllByRecursion (λ k. k < most) (filter p (range_with_len a n))
numbers_below p a zero most h = tt
numbers_below p a (suc n) most h =
    let rest = numbers_below p (a + 1) n most (omega arith) in
    elim (p a) as (λ b. AllByRecursion (λ k. k < most) (cond b (a ∷ filter p (range_with_len (a + 1) n)) (filter p (range_with_len (a + 1) n)))) [
      | true ↦ (omega arith, rest)
      | false ↦ rest
    ]
