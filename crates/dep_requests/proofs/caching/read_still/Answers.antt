use Rattle.std.proofs.Common.{◌≡◌, ◌∙◌, ◌-◌, false, true, ap, sym, subst}
use Rattle.sqlite.specs.Effect.{Database}
use Rattle.dep_tables.specs.Tables.{tables_in, tables_of, HasOurTables}
use Rattle.dep_tables.specs.Edits.{IsLeftBefore}
use Rattle.dep_tables.specs.declared.state.StateRow.{StateRow}
use Rattle.dep_row_maps.specs.TablesAre.{TablesAre}
use Rattle.std.proofs.lemmas.Result.{IfOk-from_err}
use Rattle.dep_tables.proofs.Chains.{clean_before, stays_then, stays_ok, stays_err}
use Rattle.dep_requests.proofs.CacheLemmas.{none_is, none_was_left, not_earlier, read_cached, some_was_left}
use Rattle.dep_requests.proofs.caching.read_still.Goals as goal

pub returns-clause-map : goal.returns-clause-map
returns-clause-map g c clean inside ours s are sound m same =
    let mid = tables_of (g.T.Statements.state c.counters.new.tx) in
    let before = clean_before c.in_ok-left.ensures.does.keeps.stays clean in
    let seen = (c.in_ok-row.ensures.does.keeps.same before ours).0.now_is in
    let asked = subst (λ n. IsLeftBefore n mid c.in_ok-left.left) c.saturating_sub-oldest.ensures (c.in_ok-left.ensures.does.ok clean (subst HasOurTables (sym seen) ours)) in
    let none = none_was_left c.args.config.now.staging_max_idle c.in_ok-row.row.clock mid s c.in_ok-left.left (subst (λ (d : Database). TablesAre (tables_in d.trees) s) (sym seen) are) asked
    (sym c.is_some.ensures ∙ c.if-is_some.false) in
    read_cached c.in_ok-row.row s c.args.config.now.staging_max_idle m (c.in_ok-row.ensures.does.map before ours s are) none (cc same)

pub returns-in_err-row-clause-map : goal.returns-in_err-row-clause-map
returns-in_err-row-clause-map g c clean inside ours s are sound = IfOk-from_err c.from_residual.result _ c.from_residual.ensures.0

pub returns-in_err-row-clause-covers : goal.returns-in_err-row-clause-covers
returns-in_err-row-clause-covers g c = IfOk-from_err c.from_residual.result _ c.from_residual.ensures.0

pub returns-in_err-row-clause-stays : goal.returns-in_err-row-clause-stays
returns-in_err-row-clause-stays g c = stays_err c.from_residual.ensures.0 c.in_err-row.ensures.does.keeps.stays

pub returns-then-row-moment-clause-stays : goal.returns-then-row-moment-clause-stays
returns-then-row-moment-clause-stays g c = stays_ok c.in_ok-row.ensures.does.keeps.stays

pub returns-in_err-left-clause-map : goal.returns-in_err-left-clause-map
returns-in_err-left-clause-map g c clean inside ours s are sound = IfOk-from_err c.from_residual-in_err-left.result _ c.from_residual-in_err-left.ensures.0

pub returns-in_err-left-clause-covers : goal.returns-in_err-left-clause-covers
returns-in_err-left-clause-covers g c = IfOk-from_err c.from_residual-in_err-left.result _ c.from_residual-in_err-left.ensures.0

pub returns-in_err-left-clause-stays : goal.returns-in_err-left-clause-stays
returns-in_err-left-clause-stays g c = stays_err c.from_residual-in_err-left.ensures.0 (stays_then c.in_ok-row.ensures.does.keeps.stays c.in_err-left.ensures.does.keeps.stays)

pub returns-then-is_some-clause-stays : goal.returns-then-is_some-clause-stays
returns-then-is_some-clause-stays g c = stays_ok (stays_then c.in_ok-row.ensures.does.keeps.stays c.in_ok-left.ensures.does.keeps.stays)

pub returns-clause-stays : goal.returns-clause-stays
returns-clause-stays g c = stays_ok (stays_then c.in_ok-row.ensures.does.keeps.stays c.in_ok-left.ensures.does.keeps.stays)

-- where something may be cached, it is
pub returns-then-row-moment-clause-known : goal.returns-then-row-moment-clause-known
returns-then-row-moment-clause-known g c clean inside ours s are sound late none =
    absurd (not_earlier c.in_ok-row.row s c.args.moment (c.in_ok-row.ensures.does.map clean ours s are) c.if-row-moment.true late)

pub returns-then-is_some-clause-known : goal.returns-then-is_some-clause-known
returns-then-is_some-clause-known g c clean inside ours s are sound late none =
    let mid = tables_of (g.T.Statements.state c.counters.new.tx) in
    let before = clean_before c.in_ok-left.ensures.does.keeps.stays clean in
    let seen = (c.in_ok-row.ensures.does.keeps.same before ours).0.now_is in
    let asked = subst (λ n. IsLeftBefore n mid c.in_ok-left.left) c.saturating_sub-oldest.ensures (c.in_ok-left.ensures.does.ok clean (subst HasOurTables (sym seen) ours)) in
    let is = c.in_ok-row.ensures.does.map before ours s are in
    let read = subst (λ n. IsLeftBefore (n - c.args.config.now.staging_max_idle) mid c.in_ok-left.left) (ap (λ (r : StateRow). r.clock) is) asked in
    let found = some_was_left c.args.config.now.staging_max_idle mid s c.in_ok-left.left (subst (λ (d : Database). TablesAre (tables_in d.trees) s) (sym seen) are) read none in
    let bad : false ≡ true = sym found ∙ sym c.is_some.ensures ∙ c.if-is_some.true in
    absurd (cc bad)

-- nothing is cached
pub returns-then-row-moment-clause-map : goal.returns-then-row-moment-clause-map
returns-then-row-moment-clause-map g c clean inside ours s are sound m same = absurd (none_is same)

pub returns-then-row-moment-clause-covers : goal.returns-then-row-moment-clause-covers
returns-then-row-moment-clause-covers g c m same = absurd (none_is same)

pub returns-then-is_some-clause-map : goal.returns-then-is_some-clause-map
returns-then-is_some-clause-map g c clean inside ours s are sound m same = absurd (none_is same)

pub returns-then-is_some-clause-covers : goal.returns-then-is_some-clause-covers
returns-then-is_some-clause-covers g c m same = absurd (none_is same)
