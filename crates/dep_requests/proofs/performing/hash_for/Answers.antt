use Rattle.std.proofs.Common.{◌≡◌, ◌∙◌, Some, ap, rules}
use Rattle.dep_decisions.specs.declared.purpose.Purpose.TheVariants.{References}
use Rattle.dep_tables.proofs.Chains.{may_err, may_ok, may_put, may_read, may_then}
use Rattle.dep_views.proofs.Chains.{over_behind}
use Rattle.dep_operations.specs.declared.view.Touched.{Touched}
use Rattle.dep_requests.proofs.LookingUp.{named_in, said}
use Rattle.dep_requests.proofs.performing.hash_for.Goals as goal

pub returns : goal.returns
returns g c =
    let read = may_read c.in_ok-loaded.ensures.map.keeps in
    let more = c.hash_loaded-hashed.ensures.does in
    record {
      does = record {
        map = λ is_open clean ours s are sound ahead. record { hashes = over_behind (may_ok read) more is_open clean ours s are sound ahead.hashes; rows = ahead.rows };
        keeps = may_then read more.keeps;
      };
    }

pub returns-in_err-loaded : goal.returns-in_err-loaded
returns-in_err-loaded g c = record {
  does = record {
    map = λ is_open clean ours s are sound ahead. record { hashes = ahead.hashes; rows = ahead.rows };
    keeps = may_err c.from_residual-in_err-loaded.ensures.0 (may_read c.in_err-loaded.ensures.map.keeps);
  };
}

pub give_back-requires : goal.give_back-requires
give_back-requires g c =
    let op = c.args.asked.operation.now in
    let config = c.args.asked.config.now in
    let is : c.content_purpose-purpose.result ≡ Some References = search rules in
    let named = named_in config op c.content_purpose-purpose.result c.content_purpose-purpose.ensures is in
    said c.in_ok-loaded.loaded.view.references (c.in_ok-loaded.ensures.references ∙ ap (λ (t : Touched). t.references) c.in_ok-touched.ensures.ok ∙ named)
