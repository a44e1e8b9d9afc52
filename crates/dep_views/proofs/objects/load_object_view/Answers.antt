use Rattle.std.proofs.Common.{ℕ, sym, subst, ◌∙◌}
use Rattle.dep_tables.proofs.Chains.{clean_before, reads_ok, reads_then, reads_err, still_ours}
use Rattle.dep_objects.proofs.Puts.{has_row, its_number}
use Rattle.dep_views.specs.Shown.{IsViewOf}
use Rattle.dep_views.proofs.Chains.{still_seen}
use Rattle.dep_views.proofs.Reported.{none_viewed}
use Rattle.dep_views.proofs.objects.load_object_view.Goals as goal

pub returns-in_default-clause-map : goal.returns-in_default-clause-map
returns-in_default-clause-map g c clean inside ours s are sound =
    none_viewed s c.args.object (sym c.in_default.is ∙ c.in_ok-row.ensures.does.map clean ours s are)

pub returns-clause-map : goal.returns-clause-map
returns-clause-map g c clean inside ours s are sound =
    let old = g.T.Statements.state c.args.tx.now in
    let mid = g.T.Statements.state c.find_object.new.tx in
    let before = clean_before c.view_of.ensures.map.keeps.stays clean in
    let same = c.in_ok-row.ensures.does.keeps.same before ours in
    let found = sym c.in-Some.is ∙ c.in_ok-row.ensures.does.map before ours s are in
    subst (λ (n : ℕ). IsViewOf s n c.in_ok-view.view) (its_number s c.args.object c.in-Some.row found)
    (c.in_ok-view.ensures.map.found clean (c.in_ok-row.ensures.does.keeps.stays.inside before inside) (still_ours old mid same ours) s (still_seen old mid s same are) sound (c.new-none.ensures s) (has_row s c.args.object c.in-Some.row found))

pub returns-in_err-view-clause-keeps : goal.returns-in_err-view-clause-keeps
returns-in_err-view-clause-keeps g c = reads_err c.from_residual-in_err-view.ensures.0 (reads_then c.in_ok-row.ensures.does.keeps c.view_of.ensures.map.keeps)

pub returns-clause-keeps : goal.returns-clause-keeps
returns-clause-keeps g c = reads_ok (reads_then c.in_ok-row.ensures.does.keeps c.in_ok-view.ensures.map.keeps)

pub returns-in_err-row-clause-keeps : goal.returns-in_err-row-clause-keeps
returns-in_err-row-clause-keeps g c = reads_err c.from_residual.ensures.0 c.in_err-row.ensures.does.keeps

pub returns-in_default-clause-keeps : goal.returns-in_default-clause-keeps
returns-in_default-clause-keeps g c = reads_ok c.in_ok-row.ensures.does.keeps
