use Rattle.std.proofs.Common.{Ok, false}
use Rattle.dep_tables.proofs.Chains.{may_put, may_read}
use Rattle.dep_views.proofs.ahead.read_rows_ahead.Goals as goal

pub returns-in-Metadata : goal.returns-in-Metadata
returns-in-Metadata g c = record {
  does = record {
    map = λ is_open clean ours s are sound ahead. record { texts = c.read_ahead.ensures.does.map clean ours s are sound ahead.texts; files = ahead.files };
    keeps = may_read c.read_ahead.ensures.does.keeps;
  };
}

pub returns-in-Files : goal.returns-in-Files
returns-in-Files g c = record {
  does = record {
    map = λ is_open clean ours s are sound ahead. record { texts = ahead.texts; files = c.read_listed.ensures.does.map is_open clean ours s are sound ahead.files };
    keeps = c.read_listed.ensures.does.keeps;
  };
}

pub returns-in-Payload : goal.returns-in-Payload
returns-in-Payload g c = record {
  does = record {
    map = λ is_open clean ours s are sound ahead. record { texts = ahead.texts; files = c.read_listed-in-Payload.ensures.does.map is_open clean ours s are sound ahead.files };
    keeps = c.read_listed-in-Payload.ensures.does.keeps;
  };
}

pub returns-in-Object : goal.returns-in-Object
returns-in-Object g c = record { does = c.read_whole.ensures.does }

pub returns-in_default : goal.returns-in_default
returns-in_default g c = record { does = record { map = λ is_open clean ours s are sound ahead. ahead; keeps = may_put _ _ _ (Ok false) } }
