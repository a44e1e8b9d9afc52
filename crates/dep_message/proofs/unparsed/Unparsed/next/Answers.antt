use Rattle.std.proofs.Common.{sym, ap, ◌∙◌, ◌≡◌, subst, Some, inl, inr}
use Rattle.std.proofs.lemmas.Result.{err_from_is_err_and}
use Rattle.dep_message.specs.Working.{FindsFirst, IsKnownProgress, KeepsBytes, bytes_with, kept_bytes}
use Rattle.dep_message.specs.declared.progress.Progress.{Progress}
use Rattle.dep_message.specs.declared.progress.Progress.TheVariants.{First}
use Rattle.dep_message.specs.declared.unparsed.Unparsed.{Unparsed}
use Rattle.dep_message.proofs.Shown.{found_in, takes_found, waits_on}
use Rattle.dep_message.proofs.unparsed.Unparsed.next.Goals as goal
use Rattle.dep_message.proofs.unparsed.Unparsed.next.Goals.{in-Continue, in_default-matches}

pub returns-in_err-read_on : goal.returns-in_err-read_on
returns-in_err-read_on c =
    let err = err_from_is_err_and c.from_residual.result c.from_residual.ensures.1 in
    rw (err.1) c.in_err-read_on.ensures

pub returns-after-matches : goal.returns-after-matches
returns-after-matches c =
    let old = c.args.self.now in
    let w = c.read_on.new.self in
    let keeps = c.in_ok-read_on.ensures.0 in
    let first = c.in-First.first in
    let is : w.progress ≡ First first = sym c.replace.ensures.value ∙ c.in-First.is in
    let known = subst (λ (p : Progress). IsKnownProgress w.limit w.continued w.buffer p) is keeps.known in
    let new : Unparsed = record w { progress = c.replace.new.dest; continued = c.match-matches.self } in
    found_in old.limit old.continued (kept_bytes old) w new (Some first.item) keeps
    (subst (λ (p : Progress). FindsFirst w.limit w.continued (bytes_with p w.buffer) new (Some first.item)) (sym is)
    (takes_found w first.used.items first.item known c.replace.new.dest c.replace.ensures.after c.match-matches.self
    (elim c.match-matches.branch [
      | in-Continue t ↦ inl (t.in-Continue.is, t.self-is)
      | in_default-matches t ↦ inr (t.in_default-matches.not-Continue, t.self-is)
    ])))

pub returns-in_default : goal.returns-in_default
returns-in_default c =
    let old = c.args.self.now in
    let w = c.read_on.new.self in
    let same = c.keep_place.ensures ∙ ap (λ (p : Progress). record w { progress = p }) c.replace.ensures.value in (
      waits_on old.limit old.continued (kept_bytes old) w.progress c.in_ok-read_on.ensures.1 (λ first is. c.in_default.not-First first (c.replace.ensures.value ∙ is)),
      subst (λ (new : Unparsed). KeepsBytes old.limit old.continued (kept_bytes old) new) (sym same) c.in_ok-read_on.ensures.0,
    )
