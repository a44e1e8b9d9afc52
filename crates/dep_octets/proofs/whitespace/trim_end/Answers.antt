use Rattle.std.proofs.Common.{◌≡◌, ◌-◌, ◌∙◌, take, length, arith, refl, sym}
use Rattle.std.proofs.lemmas.List.Sums.{suffix_len-take_no}
use Rattle.std.specs.List.{suffix_len}
use Rattle.dep_octets.specs.Octets.{is_blank}
use Rattle.dep_octets.proofs.whitespace.trim_end.Goals as goal
use Rattle.dep_octets.proofs.whitespace.trim_end.Goals.{then-loop-end-test+else-is_blank, else-loop-end-test}

pub returns : goal.returns
returns c =
    let text = c.args.text.now in
    let end = c.loop-end.end in
    let none_before : suffix_len is_blank (take end text) ≡ 0 =
    elim c.loop-end-test.branch [
      | then-loop-end-test+else-is_blank w ↦
          suffix_len-take_no is_blank text end 0 (omega arith) c.loop-end.invariant.0 (sym w.is_blank.ensures ∙ w.if-is_blank.false)
      | else-loop-end-test w ↦
          let zero : end ≡ 0 = omega arith in
          rw zero refl
    ] in
    let end_is : length text - suffix_len is_blank text ≡ end = omega (arith, c.loop-end.invariant.0, c.loop-end.invariant.1, none_before) in
    rw end_is refl
