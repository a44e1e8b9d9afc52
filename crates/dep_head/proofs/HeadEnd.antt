-- Where the first empty line of bytes ends.
use Rattle.std.proofs.Common.{◌≡◌, ℕ, suc, ◌<◌, ◌≤◌, List, [], ◌∷◌, ◌++◌, take, drop, length, Some, None, if◌then◌else◌, nat_eq, refl, sym, ap, length-take, ◌∙◌, arith}
use Rattle.std.proofs.lemmas.List.{take-append-drop}
use Rattle.std.specs.List.{starts_with}
use Rattle.std.specs.Option.{option_map}
use Rattle.dep_head.specs.Head.{head_end, empty_line, EndsOnce}
use Rattle.dep_head.specs.Marks.{mark_end}
use Rattle.dep_head.proofs.MarkEnds.{none_or}
use Rattle.dep_head.proofs.MarkEnds as marks

pub as_mark : (bytes : List ℕ) → head_end bytes ≡ mark_end empty_line bytes
unfolding head_end mark_end
as_mark [] = refl
as_mark (b ∷ bytes) = ap (λ o. if starts_with nat_eq (b ∷ bytes) empty_line then Some 4 else option_map suc o) (as_mark bytes)

pub end_within : (bytes : List ℕ) (n : ℕ) → head_end bytes ≡ Some n → (4 ≤ n) × (n ≤ length bytes)
end_within bytes n e = marks.end_within empty_line bytes n (sym (as_mark bytes) ∙ e)

pub end_more : (bytes more : List ℕ) (n : ℕ) → head_end bytes ≡ Some n → head_end (bytes ++ more) ≡ Some n
end_more bytes more n e = as_mark (bytes ++ more) ∙ marks.end_more empty_line bytes more n (sym (as_mark bytes) ∙ e)

pub end_front : (bytes more : List ℕ) (n : ℕ) → head_end (bytes ++ more) ≡ Some n → n ≤ length bytes → head_end bytes ≡ Some n
end_front bytes more n e l = as_mark bytes ∙ marks.end_front empty_line bytes more n (omega arith) (sym (as_mark (bytes ++ more)) ∙ e) l

-- the bytes up to their first end, end there
pub end_take : (bytes : List ℕ) (n : ℕ) → head_end bytes ≡ Some n → EndsOnce (take n bytes)
end_take bytes n e =
    let w : n ≤ length bytes = (end_within bytes n e).1 in
    let l : length (take n bytes) ≡ n = simp length-take (omega arith) in
    end_front (take n bytes) (drop n bytes) n (ap head_end (take-append-drop n bytes) ∙ e) (omega arith) ∙ ap (λ k. Some k) (sym l)

-- no front ends where the whole doesn't
pub none_front : (bytes more : List ℕ) → head_end (bytes ++ more) ≡ None → head_end bytes ≡ None
none_front bytes more e = none_or (head_end bytes) (λ m f. let g = end_more bytes more m f in cc)

-- no shorter front ends
pub front_before : (bytes more : List ℕ) (n : ℕ) → head_end (bytes ++ more) ≡ Some n → length bytes < n → head_end bytes ≡ None
front_before bytes more n e l = none_or (head_end bytes) (λ m f.
    let g = end_more bytes more m f in
    let same : m ≡ n = cc in
    let w : m ≤ length bytes = (end_within bytes m f).1 in
    omega arith)
