use Rattle.std.proofs.Common.{sym, ap, ◌∙◌, ◌≡◌, ◌≤◌, take, drop, length, Some, None, arith, length-take, inl, inr}
use Rattle.std.proofs.lemmas.List.{take-append-drop}
use Rattle.dep_head.specs.Head.{head_end}
use Rattle.dep_head.proofs.HeadEnd.{end_within, end_take, none_front, front_before}
use Rattle.dep_message.specs.Stream.{no_head}
use Rattle.dep_message.proofs.first.first_head.Goals as goal

pub returns-then-bytes-ge-HEAD_LIMIT : goal.returns-then-bytes-ge-HEAD_LIMIT
returns-then-bytes-ge-HEAD_LIMIT c =
    let bytes = c.args.front.bytes.now in
    let none : head_end bytes ≡ None = sym c.find_end_from.ensures ∙ c.in_default.is in (
      take 16384 bytes,
      drop 16384 bytes,
      sym (take-append-drop 16384 bytes),
      no_head (inr (none_front (take 16384 bytes) (drop 16384 bytes) (ap head_end (take-append-drop 16384 bytes) ∙ none), simp length-take (omega arith))),
    )

pub returns-then-end-gt-HEAD_LIMIT : goal.returns-then-end-gt-HEAD_LIMIT
returns-then-end-gt-HEAD_LIMIT c =
    let bytes = c.args.front.bytes.now in
    let n = c.in-Some.end in
    let some : head_end bytes ≡ Some n = sym c.in-Some.ensures in
    let within : n ≤ length bytes = (end_within bytes n some).1 in
    let size : length (take 16384 bytes) ≡ 16384 = simp length-take (omega arith) in (
      take 16384 bytes,
      drop 16384 bytes,
      sym (take-append-drop 16384 bytes),
      no_head (inr (front_before (take 16384 bytes) (drop 16384 bytes) n (ap head_end (take-append-drop 16384 bytes) ∙ some) (omega arith), size)),
    )

pub slice_bounds-read_head-end : goal.slice_bounds-read_head-end
slice_bounds-read_head-end c =
    let within : c.in-Some.end ≤ length c.args.front.bytes.now = (end_within c.args.front.bytes.now c.in-Some.end (sym c.in-Some.ensures)).1 in
    simp length-take (omega arith)

pub returns-in-Err-NotAHead : goal.returns-in-Err-NotAHead
returns-in-Err-NotAHead c =
    let bytes = c.args.front.bytes.now in
    let n = c.in-Some.end in (
      take n bytes,
      drop n bytes,
      sym (take-append-drop n bytes),
      no_head (inl (end_take bytes n (sym c.in-Some.ensures), simp length-take (omega arith), c.read_head.ensures.refused (cc))),
    )

pub returns-in-Err-Memory : goal.returns-in-Err-Memory
returns-in-Err-Memory c =
    let bytes = c.args.front.bytes.now in
    let n = c.in-Some.end in
    (take n bytes, drop n bytes, sym (take-append-drop n bytes), c.read_head.ensures.wanted (cc))
