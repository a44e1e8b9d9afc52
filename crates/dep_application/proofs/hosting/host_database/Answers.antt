use Rattle.std.proofs.Common.{ap, refl, ◌∙◌}
use Rattle.sqlite.proofs.StateLemmas.{clean_if_open}
use Rattle.dep_slot.specs.Causes.{causes_of}
use Rattle.dep_store.specs.declared.archive.HashingStore.{HashingStore}
use Rattle.dep_application.proofs.HostedLemmas.{over_hub, without_hub}
use Rattle.dep_application.proofs.hosting.host_database.Goals as goal

pub returns-in-Ok : goal.returns-in-Ok
returns-in-Ok g c =
    let served = c.serve_reserved-outcome.ensures in
    record {
      hosts = over_hub g.S.Store (λ h is_open. clean_if_open (g.S.Store.view h.store) (g.met.S.Store.shut_if_dirty h.store) is_open)
          (λ h is_open trees may. g.met.S.Store.settled h.store trees is_open may) c.args.connection c.args.config c.in-Ok.hub
          c.in-Ok.ensures.opened
          g.R.Source.unread g.K.Sink.taken g.P.Spool.held g.P.Spool.size (causes_of g.R.Source.halts g.K.Sink.halts g.P.Spool.failures)
          served.left c.close.result served.serves.0 c.serve_reserved-outcome.result.0 (c.close.ensures ∙ ap (λ (a : HashingStore _). a.store) served.same)
          served.serves.1 served.serves.2;
    }

pub returns-in-Err : goal.returns-in-Err
returns-in-Err g c =
    let it = c.in-Err in
    record {
      hosts = without_hub g.S.Store g.R.Source.unread g.K.Sink.taken g.P.Spool.held g.P.Spool.size (causes_of g.R.Source.halts g.K.Sink.halts g.P.Spool.failures)
          (λ h is_open. clean_if_open (g.S.Store.view h.store) (g.met.S.Store.shut_if_dirty h.store) is_open)
          (λ h is_open trees may. g.met.S.Store.settled h.store trees is_open may) c.args.config c.args.connection it.connection
          it.fault it.ensures.checked it.ensures.left it.ensures.refused it.ensures.kept it.ensures.stop refl c.outcome.result c.outcome.ensures;
    }
