use Rattle.std.proofs.Common.{List, ℕ, arith, ap, ◌∙◌, ◌<◌, ◌++◌, length, take, drop}
use Rattle.dep_message.specs.declared.message.Message.{Message}
use Rattle.dep_message.specs.declared.progress.Progress.TheVariants.{Sized}
use Rattle.dep_message.proofs.Bodies.{begins_with_head}
use Rattle.dep_message.proofs.Keeping.{keeps_apart, keeps_body, none_apart, none_more, waits_apart}
use Rattle.dep_message.proofs.unparsed.Unparsed.read_sized.Goals as goal

pub returns-then-as_slice-request : goal.returns-then-as_slice-request
returns-then-as_slice-request c =
    let w = c.args.self.now in
    let r = c.args.request in
    let less : length r.behind < r.length = omega (arith, ap length c.as_slice.ensures, c.if-as_slice-request.true) in
    waits_apart w c.keep_place.new.self r c.requires.sized (none_apart r.length r.behind w.buffer c.requires.apart less) less c.keep_place.ensures

pub returns-in-Err : goal.returns-in-Err
returns-in-Err c =
    let w = c.args.self.now in
    let r = c.args.request in
    let rest_is = c.split_at.ensures.back ∙ ap (drop r.length) c.as_slice-2.ensures in (
      keeps_apart w c.keep_place-in-Err.new.self r c.requires.sized (none_more r.length r.behind w.buffer c.split_at.result.1.now c.requires.apart rest_is c.in-Err.ensures.wanted)
          (c.keep_place-in-Err.ensures ∙ ap (λ (b : List ℕ). record w { buffer = b; progress = Sized r }) c.in-Err.ensures.err),
      begins_with_head w.limit w.continued r.used.items (r.behind ++ w.buffer) r.head c.requires.sized.frame c.requires.sized.begun,
    )

pub returns-in-Ok : goal.returns-in-Ok
returns-in-Ok c =
    let w = c.args.self.now in
    let r = c.args.request in
    let used = c.and-used.result in
    let m : Message = record { head = r.head; content = c.truncate.new.self } in
    let body_is = c.split_at.ensures.front ∙ ap (take r.length) c.as_slice-2.ensures in
    let rest_is = c.split_at.ensures.back ∙ ap (drop r.length) c.as_slice-2.ensures in
    keeps_body w c.keep_found.new.self r used c.append.new.self m c.requires.sized c.requires.apart
    (omega (arith, ap length c.as_slice.ensures, c.if-as_slice-request.false))
    (c.and-used.ensures ∙ ap (λ (l : List ℕ). r.used.items ++ l) body_is)
    (c.in-Ok.ensures.ok ∙ ap (λ (l : List ℕ). w.buffer ++ l) rest_is)
    c.truncate.ensures c.keep_found.ensures
