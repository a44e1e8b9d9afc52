use Rattle.std.proofs.Common.{List, ℕ, ◌++◌, ◌≡◌, ◌∙◌, length, take, drop, sym, ap, subst, arith, length-take, length-drop}
use Rattle.std.proofs.lemmas.Result.{err_from_is_err_and}
use Rattle.dep_message.specs.Working.{IsBegun, ReadsOn}
use Rattle.dep_message.proofs.Keeping.{all_there, stands_apart, unchanged}
use Rattle.dep_message.proofs.unparsed.Unparsed.begin_sized.Goals as goal

pub returns-in_err-content : goal.returns-in_err-content
returns-in_err-content c =
    let p = err_from_is_err_and c.from_residual.result c.from_residual.ensures.1 in
    rw (p.1) (unchanged c.args.self.now c.args.first c.requires.head)

pub drop_front-requires : goal.drop_front-requires
drop_front-requires c =
    let n = c.args.first.length in
    let bytes = c.args.self.now.buffer in
    omega (arith, ap length c.as_slice-come.ensures, ap length (c.from_vec-behind.ensures ∙ c.in_ok-content.ensures), length-take c.args.size (drop n bytes), length-drop n bytes, c.requires.head.within)

pub read_sized-requires-clause-sized : goal.read_sized-requires-clause-sized
read_sized-requires-clause-sized c =
    let w = c.args.self.now in
    let first = c.args.first in
    let used_is : c.and-used.result.items ≡ take first.length w.buffer =
    c.and-used.ensures ∙ (ap (λ (l : List ℕ). l ++ take first.length c.as_slice.result.now) c.new.ensures ∙ ap (take first.length) c.as_slice.ensures) in
    record {
      frame = first.framing;
      begun = subst (λ (l : List ℕ). IsBegun w.limit w.continued l first.head first.framing) (sym used_is) c.requires.head.begun;
      size_is = c.requires.size;
    }

pub read_sized-requires-clause-apart : goal.read_sized-requires-clause-apart
read_sized-requires-clause-apart c =
    stands_apart c.args.first.length c.args.size (length c.as_slice-come.result.now) c.args.self.now.buffer c.from_vec-behind.result c.drop_front.new.self
    (c.from_vec-behind.ensures ∙ c.in_ok-content.ensures) (ap length c.as_slice-come.ensures) c.drop_front.ensures.rest

pub returns : goal.returns
returns c =
    let w = c.args.self.now in
    let n = c.args.first.length in
    let used_is : c.and-used.result.items ≡ take n w.buffer =
    c.and-used.ensures ∙ (ap (λ (l : List ℕ). l ++ take n c.as_slice.result.now) c.new.ensures ∙ ap (take n) c.as_slice.ensures) in
    subst (λ (l : List ℕ). ReadsOn w l c.read_sized.new.self c.read_sized.result)
    (all_there n c.args.size (length c.as_slice-come.result.now) w.buffer c.from_vec-behind.result c.drop_front.new.self
    (c.from_vec-behind.ensures ∙ c.in_ok-content.ensures) (ap length c.as_slice-come.ensures) c.drop_front.ensures.rest c.and-used.result.items used_is)
    c.read_sized.ensures
