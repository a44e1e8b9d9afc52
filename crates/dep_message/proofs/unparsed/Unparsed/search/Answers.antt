use Rattle.std.proofs.Common.{◌≡◌, ◌∙◌, [], refl, sym, subst, ap, length, List, ℕ}
use Rattle.std.proofs.lemmas.Result.{err_from_is_err_and}
use Rattle.dep_message.specs.Giving.{BeginsWithHead}
use Rattle.dep_message.specs.Working.{FindsHead, IsItem, first_found}
use Rattle.dep_message.specs.declared.progress.Found.{Found}
use Rattle.dep_message.specs.declared.unparsed.Unparsed.{Unparsed}
use Rattle.dep_message.proofs.Keeping.{keeps_fresh, keeps_first, keeps_searched}
use Rattle.dep_message.proofs.unparsed.Unparsed.search.Goals as goal
use Rattle.dep_message.proofs.unparsed.Unparsed.search.Goals.{in-Fault, in-Continue}

pub returns-in_err-first : goal.returns-in_err-first
returns-in_err-first c =
    let w = c.args.self.now in
    let p = err_from_is_err_and c.from_residual.result c.from_residual.ensures.1 in
    rw (p.1) (
      keeps_fresh w.limit w.continued w.buffer w c.requires.fresh refl refl refl,
      subst BeginsWithHead c.as_slice-bytes.ensures c.in_err-first.ensures,
    )

pub returns-in-Nothing : goal.returns-in-Nothing
returns-in-Nothing c =
    let w = c.args.self.now in
    let found = subst (λ (l : List ℕ). FindsHead w.limit w.continued l c.in_ok-first.field-0) c.as_slice-bytes.ensures c.in_ok-first.ensures in
    keeps_searched w c.keep_place.new.self _ c.keep_place.ensures (ap length c.as_slice-bytes.ensures) (rw c.in-Nothing.is at found)

pub begin-requires : goal.begin-requires
begin-requires c =
    let w = c.args.self.now in
    let found = subst (λ (l : List ℕ). FindsHead w.limit w.continued l c.in_ok-first.field-0) c.as_slice-bytes.ensures c.in_ok-first.ensures in
    let head = rw c.in-Head.is at found in
    record { fresh = c.requires.fresh; within = head.0; begun = head.1 }

pub returns-in-Head : goal.returns-in-Head
returns-in-Head c = c.begin.ensures

pub returns : goal.returns
returns c =
    let w = c.args.self.now in
    let item = c.match-branch-2.item in
    let found = subst (λ (l : List ℕ). FindsHead w.limit w.continued l c.in_ok-first.field-0) c.as_slice-bytes.ensures c.in_ok-first.ensures in
    let first : (c.match-branch-2.self ≡ w) × IsItem w.limit w.continued [] w.buffer c.match-branch-2.item =
    elim c.match-branch-2.branch as (λ _. (c.match-branch-2.self ≡ w) × IsItem w.limit w.continued [] w.buffer c.match-branch-2.item) [
      | in-Fault t ↦ (t.self-is, subst (λ (f : Found). IsItem w.limit w.continued [] w.buffer f) (sym t.item-is) (rw t.in-Fault.is at found))
      | in-Continue t ↦ (t.self-is, subst (λ (f : Found). IsItem w.limit w.continued [] w.buffer f) (sym t.item-is) (refl, rw t.in-Continue.is at found))
    ] in
    keeps_first w c.keep_found.new.self item c.new.result
    (c.keep_found.ensures ∙ ap (λ (u : Unparsed). record u { progress = first_found item c.new.result }) first.0) c.new.ensures first.1
