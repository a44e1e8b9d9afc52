use Rattle.std.proofs.Common.{◌≡◌, ◌∙◌, ◌++◌, [], take, drop, sym, ap, arith}
use Rattle.std.proofs.lemmas.List.{append-nil}
use Rattle.std.proofs.Math.ListN.{drop_of_length-le}
use Rattle.percent_encoding.specs.Percent.{percent_decode}
use Rattle.percent_encoding.proofs.PercentLemmas.{percent_decode-nil}
use Rattle.dep_router.proofs.bag_paths.decoded_from.Goals as goal

pub returns : goal.returns
returns c =
    let path = c.loop-read.path.items in
    let none : drop c.loop-read.read path ≡ [] = drop_of_length-le path (omega (arith, c.loop-read-test.false, c.len.ensures)) in
    let left : percent_decode (drop c.loop-read.read path) ≡ [] = ap percent_decode none ∙ percent_decode-nil in
    c.truncate.ensures.items ∙ sym (append-nil _) ∙ ap (λ r. take c.loop-read.written path ++ r) (sym left) ∙ c.loop-read.invariant.1
