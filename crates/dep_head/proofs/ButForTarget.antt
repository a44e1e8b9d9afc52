-- What is known of a text before its target is read.
use Rattle.std.proofs.Common.{◌≡◌, ◌≤◌, ℕ, List, [], Some, length, take, drop, map, codes, arith, ap, subst, length-take}
use Rattle.std.proofs.lemmas.List.{length-map}
use Rattle.std.proofs.Math.Seq.{drop-length}
use Rattle.httparse.specs.Grammar.{RequestHead, ReadsRequest}
use Rattle.httparse.specs.Spans.{header_bytes, name_and_value, IsRequestAt}
use Rattle.httparse.specs.declared.spans.HeaderSpan.{HeaderSpan}
use Rattle.httparse.specs.declared.spans.RequestSpans.{RequestSpans}
use Rattle.dep_head.specs.Head.{head_end, head_limit, field_limit, values_of, IsHostCount, IsHeadButForTarget}

pub but_for_target : (text : List ℕ) (headers : List HeaderSpan) (spans : RequestSpans) (head : RequestHead) → IsRequestAt text headers spans head
    → head_end text ≡ Some (length text) → length text ≤ head_limit → spans.len ≡ length text → length headers ≤ field_limit
    → IsHostCount spans.version (length (values_of (map (header_bytes text) (take spans.headers headers)) (codes "Host")))
    → IsHeadButForTarget text head
but_for_target text headers spans head spanned ends small whole sized hosts =
    let none : drop spans.len text ≡ [] = rw whole (drop-length text) in
    let count : length (map (header_bytes text) (take spans.headers headers)) ≡ length (map name_and_value head.fields) = ap length spanned.fields in
    let counted = simp (length-map, length-take) at count in
    let at_version : IsHostCount head.minor (length (values_of (map (header_bytes text) (take spans.headers headers)) (codes "Host"))) =
    subst (λ (n : ℕ). IsHostCount n (length (values_of (map (header_bytes text) (take spans.headers headers)) (codes "Host")))) spanned.version hosts in
    record {
      ends = ends;
      small = small;
      reads = subst (ReadsRequest text head) none spanned.reads;
      room = omega (arith, counted, sized);
      hosts = subst (λ (f : List (List ℕ × List ℕ)). IsHostCount head.minor (length (values_of f (codes "Host")))) spanned.fields at_version;
    }
