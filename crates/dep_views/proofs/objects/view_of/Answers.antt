use Rattle.std.proofs.lemmas.Result.{IfOk-from_err}
use Rattle.std.proofs.Common.{ℕ, ◌≡◌, Some, IfOk, subst, sym}
use Rattle.std.specs.Prelude.{option_map}
use Rattle.std.specs.FinMap as finmap
use Rattle.dep_tables.proofs.Chains.{clean_before, reads_then, reads_err, still_ours}
use Rattle.dep_objects.specs.Objects.{IsDescribed}
use Rattle.dep_views.specs.Shown.{IsViewOf}
use Rattle.dep_views.proofs.Chains.{still_seen}
use Rattle.dep_views.proofs.Reported.{described_number}
use Rattle.dep_views.proofs.objects.view_of.Goals as goal

pub returns : goal.returns
returns g c =
    let old = g.T.Statements.state c.args.tx.now in
    let mid = g.T.Statements.state c.describe.new.tx in
    let one = c.in_ok-described.ensures.does in
    let two = c.with_files.ensures.map in
    record {
      map = record {
        found = λ clean inside ours s are sound ahead has.
            let earlier = clean_before two.keeps.stays clean in
            let its = one.found earlier inside ours s are sound has in
            let same = one.keeps.same earlier ours in
            let number = described_number s c.args.row.object c.in_ok-described.described its in
            subst (λ (n : ℕ). IfOk c.with_files.result (IsViewOf s n)) number
            (two.found clean (one.keeps.stays.inside earlier inside) (still_ours old mid same ours) s (still_seen old mid s same are) sound ahead
            (subst (λ (n : ℕ). IsDescribed s n c.in_ok-described.described) (sym number) its));
        keeps = reads_then one.keeps two.keeps;
      };
      files = c.with_files.ensures.files;
    }

pub returns-in_err-described : goal.returns-in_err-described
returns-in_err-described g c = record {
  map = record {
    found = λ clean inside ours s are sound ahead has. IfOk-from_err c.from_residual.result _ c.from_residual.ensures.0;
    keeps = reads_err c.from_residual.ensures.0 c.in_err-described.ensures.does.keeps;
  };
  files = λ s are. are;
}
