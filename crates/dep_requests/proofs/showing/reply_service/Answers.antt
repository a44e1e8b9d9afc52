use Rattle.std.proofs.Common.{◌≡◌, sym, subst, refl}
use Rattle.dep_types.specs.State.{State}
use Rattle.dep_operations.specs.Rulings.{IsRuling}
use Rattle.dep_operations.specs.declared.ruling.Ruling.{Ruling}
use Rattle.dep_answers.specs.ReadSets.{shown_at, read_set_of}
use Rattle.dep_decisions.proofs.ReadAlone.{reads_keep}
use Rattle.dep_answers.specs.declared.read_set.Shown.TheVariants as shown
use Rattle.dep_requests.proofs.CacheLemmas.{shows_nothing}
use Rattle.dep_requests.proofs.Stepping.{delivered, refused_then, accepted_then}
use Rattle.dep_requests.proofs.showing.reply_service.Goals as goal

pub returns-in-Refuse : goal.returns-in-Refuse
returns-in-Refuse c fit s sound is_cache rules =
    let op = c.args.operation.now in
    let config = c.args.service.now in
    let way = delivered s op c.args.cache.now.clock c.delivery_at-delivery.result sound is_cache.clock
    c.delivery_at-delivery.ensures.clock c.delivery_at-delivery.ensures.head_only c.delivery_at-delivery.ensures.closes in
    refused_then config s op (λ (after : State). after ≡ s) _ c.delivery_at-delivery.result c.refused.result (subst (λ (r : Ruling). IsRuling config s op r) c.in-Refuse.is rules) way refl c.refused.ensures.says

pub returns-in-Do : goal.returns-in-Do
returns-in-Do c fit s sound is_cache rules =
    let op = c.args.operation.now in
    let config = c.args.service.now in
    let way = delivered s op c.args.cache.now.clock c.delivery_at-delivery.result sound is_cache.clock
    c.delivery_at-delivery.ensures.clock c.delivery_at-delivery.ensures.head_only c.delivery_at-delivery.ensures.closes in
    let reported = subst (λ (r : Ruling). IsRuling config s op r) c.in-Do.is rules in
    let same = reads_keep config s op c.requires.method in
    let nothing = subst (λ (after : State). shown.Nothing ≡ shown_at after (read_set_of after.next op.target.resource op.target.method)) (sym same) (shows_nothing s op c.requires) in
    accepted_then config s op (λ (after : State). after ≡ s) c.delivery_at-delivery.result shown.Nothing c.accept.result fit sound reported.0 way (same, nothing) c.accept.ensures
