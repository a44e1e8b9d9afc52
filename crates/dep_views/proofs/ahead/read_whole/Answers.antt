use Rattle.dep_tables.proofs.Chains.{clean_before, may_err, may_ok, may_read, may_then}
use Rattle.dep_views.proofs.Chains.{over_behind}
use Rattle.dep_views.proofs.ahead.read_whole.Goals as goal

pub returns : goal.returns
returns g c =
    let texts = c.in_ok-are_texts_left.ensures.does in
    let files = c.read_listed.ensures.does in
    record {
      does = record {
        keeps = may_then (may_read texts.keeps) files.keeps;
        map = λ is_open clean ours s are sound ahead. record {
          texts = texts.map (clean_before files.keeps.stays clean) ours s are sound ahead.texts;
          files = over_behind (may_ok (may_read texts.keeps)) files is_open clean ours s are sound ahead.files;
        };
      };
    }

pub returns-then-are_texts_left : goal.returns-then-are_texts_left
returns-then-are_texts_left g c = record {
  does = record {
    map = λ is_open clean ours s are sound ahead. record { texts = c.in_ok-are_texts_left.ensures.does.map clean ours s are sound ahead.texts; files = ahead.files };
    keeps = may_ok (may_read c.in_ok-are_texts_left.ensures.does.keeps);
  };
}

pub returns-in_err-are_texts_left : goal.returns-in_err-are_texts_left
returns-in_err-are_texts_left g c = record {
  does = record {
    map = λ is_open clean ours s are sound ahead. record { texts = c.in_err-are_texts_left.ensures.does.map clean ours s are sound ahead.texts; files = ahead.files };
    keeps = may_err c.from_residual.ensures.0 (may_read c.in_err-are_texts_left.ensures.does.keeps);
  };
}
