use Rattle.std.proofs.Common.{◌∙◌, ℕ, refl, sym, ap}
use Rattle.std.specs.Prelude.{option_map}
use Rattle.std.specs.FinMap as finmap
use Rattle.dep_types.specs.Rows.{object_row}
use Rattle.dep_tables.proofs.Chains.{may_put, may_read}
use Rattle.dep_tables.proofs.Results.{if_then, ok_then}
use Rattle.dep_views.proofs.Shows.{known_row_at, no_row_at, row_at_number}
use Rattle.dep_views.proofs.shown.row_of.Goals as goal

pub returns-in-Some-Some : goal.returns-in-Some-Some
returns-in-Some-Some g c = record {
  does = record {
    map = λ clean inside ours s are known.
        known_row_at s c.args.read_set.now c.args.known c.in-Some-Some.row c.in-Some-Some.object c.in-Some-Some.is-1 (sym c.object_in.ensures ∙ c.in-Some-Some.is-0) c.if-row-object.true known;
    keeps = may_put g.T.Statements.lenders g.T.Statements.state c.args.tx.now _;
    still = λ clean ours. refl;
  };
}

pub returns-in-Some-default : goal.returns-in-Some-default
returns-in-Some-default g c =
    let found = c.find_object.ensures.does in
    record {
      does = record {
        map = λ clean inside ours s are known.
            if_then c.find_object.result (found.map clean ours s are) (λ row is.
            is ∙ ap (λ (n : ℕ). option_map (object_row n) (finmap.get s.objects n)) c.in-Some-default.object-is
            ∙ sym (row_at_number s c.args.read_set.now c.in-Some-default.object (sym c.object_in.ensures ∙ c.in-Some-default.is-0)));
        keeps = may_read found.keeps;
        still = λ clean ours. ok_then c.find_object.result (found.keeps.same clean ours) (λ same. same.0.now_is);
      };
    }

pub returns-in-None-default : goal.returns-in-None-default
returns-in-None-default g c = record {
  does = record {
    map = λ clean inside ours s are known. no_row_at s c.args.read_set.now (sym c.object_in.ensures ∙ c.in-None-default.is-0);
    keeps = may_put g.T.Statements.lenders g.T.Statements.state c.args.tx.now _;
    still = λ clean ours. refl;
  };
}
