use Rattle.std.proofs.Common.{◌≡◌, ◌∙◌, take, drop}
use Rattle.std.proofs.lemmas.Result.{IfOk-weaker}
use Rattle.dep_body.proofs.Slices.{come_is}
use Rattle.dep_body.proofs.buffer.Buffer.copy_behind.Goals as goal

pub returns : goal.returns
returns c =
    let bytes = c.args.self.now in
    IfOk-weaker c.from_slice.result _ (λ copy. copy.items ≡ take c.args.count (drop c.args.start bytes))
    (λ copy is. is ∙ come_is bytes c.as_slice.result.now c.args.start c.args.count c.min.result c.as_slice.ensures c.min.ensures) c.from_slice.ensures.items
