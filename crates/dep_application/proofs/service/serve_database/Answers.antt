use Rattle.std.proofs.Common.{◌≡◌, ℕ, ◌∙◌, ap, refl, sym, subst, IsTrue, arith}
use Rattle.sqlite.specs.Held.{Held, state}
use Rattle.sqlite.specs.State.{HasCleanDisk}
use Rattle.sqlite.proofs.StateLemmas.{clean_if_open}
use Rattle.dep_types.specs.declared.config.Config.{Config}
use Rattle.dep_program.specs.Setup.{program_config, base_at}
use Rattle.dep_program.specs.declared.outcome.Outcome.{Outcome}
use Rattle.dep_application.specs.Databases.{ServesDatabase, left_alone}
use Rattle.dep_application.proofs.DatabaseLemmas.{opening_left, served, fails}
use Rattle.dep_application.proofs.service.serve_database.Goals as goal

pub returns-in_default-clause-serves : goal.returns-in_default-clause-serves
returns-in_default-clause-serves g c = left_alone refl

pub returns-in-Ok-open_hub-clause-serves : goal.returns-in-Ok-open_hub-clause-serves
returns-in-Ok-open_hub-clause-serves g c =
    let run = c.serve_at-outcome in
    let port : c.from.result ≡ c.args.options.port = omega arith in
    let same : c.in-Ok.config ≡ program_config (base_at c.args.options.port) = c.in-Ok.ensures ∙ ap (λ (n : ℕ). program_config (base_at n)) port in
    subst (λ (x : Config). ServesDatabase g.S.Store x c.args.options.count c.args.connection c.close_hub.result run.result) same
    (served g.S.Store (λ h is_open. clean_if_open (g.S.Store.view h.store) (g.met.S.Store.shut_if_dirty h.store) is_open)
    (λ h is_open trees may. g.met.S.Store.settled h.store trees is_open may) c.args.connection c.in-Ok.config c.in-Ok-open_hub.hub
    c.in-Ok-open_hub.ensures.config c.in-Ok-open_hub.ensures.fresh c.in-Ok-open_hub.ensures.again c.in-Ok-open_hub.ensures.checked c.args.options.count run.new.hub c.close_hub.result run.result
    c.close_hub.ensures run.ensures.config run.ensures.honest (opening_left _ _ c.in-Ok-open_hub.ensures.stop) run.ensures.serves)

pub returns-in-Err-clause-serves : goal.returns-in-Err-clause-serves
returns-in-Err-clause-serves g c =
    let it = c.in-Err in
    let port : c.from.result ≡ c.args.options.port = omega arith in
    let same : c.in-Ok.config ≡ program_config (base_at c.args.options.port) = c.in-Ok.ensures ∙ ap (λ (n : ℕ). program_config (base_at n)) port in
    subst (λ (x : Config). ServesDatabase g.S.Store x c.args.options.count c.args.connection it.connection c.outcome.result) same
    (subst (λ (o : Outcome). ServesDatabase g.S.Store c.in-Ok.config c.args.options.count c.args.connection it.connection o) (sym c.outcome.ensures)
    (fails g.S.Store c.args.connection it.connection
    (λ is_open. clean_if_open (g.S.Store.view it.connection.store) (g.met.S.Store.shut_if_dirty it.connection.store) is_open)
    (opening_left _ _ it.ensures.stop) c.in-Ok.config c.args.options.count it.fault it.ensures.checked it.ensures.left it.ensures.refused it.ensures.kept))

pub returns-in-Ok-open_hub-clause-honest : goal.returns-in-Ok-open_hub-clause-honest
returns-in-Ok-open_hub-clause-honest g c honest =
    c.in-Ok-open_hub.ensures.honest (c.serve_at-outcome.ensures.honest (subst (λ (h : Held _). HasCleanDisk (state g.S.Store h)) c.close_hub.ensures honest))

pub returns-in-Err-clause-honest : goal.returns-in-Err-clause-honest
returns-in-Err-clause-honest g c = c.in-Err.ensures.honest

pub returns-in-Ok-open_hub-clause-open : goal.returns-in-Ok-open_hub-clause-open
returns-in-Ok-open_hub-clause-open g c is_open =
    c.in-Ok-open_hub.ensures.clean (c.serve_at-outcome.ensures.clean (subst (λ (h : Held _). IsTrue (state g.S.Store h).is_open) c.close_hub.ensures is_open))

pub returns-in-Err-clause-open : goal.returns-in-Err-clause-open
returns-in-Err-clause-open g c = c.in-Err.ensures.clean
