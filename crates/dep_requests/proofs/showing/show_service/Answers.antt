use Rattle.std.proofs.Common.{◌≡◌, ◌∙◌}
use Rattle.dep_operations.specs.Views.{true_view}
use Rattle.dep_requests.proofs.CacheLemmas.{service_seen}
use Rattle.dep_requests.proofs.showing.show_service.Goals as goal

pub returns : goal.returns
returns c fit s sound is_cache =
    let op = c.args.operation.now in
    let config = c.config.result.now in
    let seen : c.view_service-view.result ≡ true_view config s op = c.view_service-view.ensures ∙ service_seen config s op c.args.cache.now c.requires is_cache in
    let ruled = rw c.config.ensures at (c.in_ok-ruling.ensures.ruling s seen) in
    c.reply_service-performed.ensures fit s sound is_cache ruled
