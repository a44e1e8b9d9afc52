use Rattle.std.proofs.Common.{◌≡◌, ℕ, List, Some, length, take, map, codes, arith, sym, ap, subst, ◌∙◌, rules}
use Rattle.httparse.specs.Spans.{header_bytes, span_bytes, IsRequestOf}
use Rattle.http_uri.specs.Uri.{Spells}
use Rattle.dep_head.specs.Head.{head_end, values_of, IsHostCount}
use Rattle.dep_head.proofs.ButForTarget.{but_for_target}
use Rattle.dep_head.proofs.head.read_head.Goals as goal

pub returns-in_err-fields-clause-wanted : goal.returns-in_err-fields-clause-wanted
returns-in_err-fields-clause-wanted c _ =
    let text = c.args.text.now in
    let found : IsRequestOf text c.parse_request.new.headers c.in-Ok-Complete.spans = (rw c.in-Ok-Complete.field-0-is at c.in-Ok-Complete.ensures).complete in
    let ends : head_end text ≡ Some (length text) = sym c.in-Some.ensures ∙ ap (λ n. Some n) (search rules) in
    let hosts = c.has_good_host.ensures.0 c.if-not-has_good_host.false in
    (found.0, but_for_target text c.parse_request.new.headers c.in-Ok-Complete.spans found.0 found.1 ends (omega arith) (search rules) (search rules) hosts)

pub returns-clause-read : goal.returns-clause-read
returns-clause-read c =
    let text = c.args.text.now in
    let found : IsRequestOf text c.parse_request.new.headers c.in-Ok-Complete.spans = (rw c.in-Ok-Complete.field-0-is at c.in-Ok-Complete.ensures).complete in
    let head = found.0 in
    let spanned = found.1 in
    let ends : head_end text ≡ Some (length text) = sym c.in-Some.ensures ∙ ap (λ n. Some n) (search rules) in
    let hosts = c.has_good_host.ensures.0 c.if-not-has_good_host.false in
    let but = but_for_target text c.parse_request.new.headers c.in-Ok-Complete.spans head spanned ends (omega arith) (search rules) (search rules) hosts in
    let target : c.of.result.now ≡ head.target = c.of.ensures ∙ spanned.path in
    let kept : c.in_ok-fields.fields.items ≡ take c.in-Ok-Complete.spans.headers c.parse_request.new.headers = c.in_ok-fields.ensures.items in
    let copied = ap (λ t. map (header_bytes t) c.in_ok-fields.fields.items) c.in_ok-text.ensures.items ∙ ap (map (header_bytes text)) kept in
    record {
      ends = but.ends;
      small = but.small;
      head = head;
      reads = but.reads;
      room = but.room;
      uri = c.in_ok-path.ensures.read.0;
      spelled = subst (λ t. Spells t c.in_ok-path.ensures.read.0) target c.in_ok-path.ensures.read.1;
      method_is = ap (λ t. span_bytes t c.in-Ok-Complete.spans.method) c.in_ok-text.ensures.items ∙ spanned.method;
      path_is = c.in_ok-path.ensures.read.2;
      minor_is = spanned.version;
      fields_are = copied ∙ spanned.fields;
      hosts = subst (λ (f : List (List ℕ × List ℕ)). IsHostCount c.in-Ok-Complete.spans.version (length (values_of f (codes "Host")))) (sym copied) hosts;
    }
