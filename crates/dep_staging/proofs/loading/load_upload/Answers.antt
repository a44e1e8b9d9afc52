use Rattle.std.proofs.Common.{sym, ◌∙◌}
use Rattle.dep_tables.specs.Tables.{tables_of}
use Rattle.dep_tables.proofs.Chains.{reads_ok, reads_then}
use Rattle.dep_files.proofs.Behind.{behind}
use Rattle.dep_staging.proofs.Loaded.{found_live}
use Rattle.dep_row_maps.proofs.Calling.{reads_failed}
use Rattle.dep_staging.proofs.loading.load_upload.Goals as goal

pub returns-in_ok-segments_of-in-Live : goal.returns-in_ok-segments_of-in-Live
returns-in_ok-segments_of-in-Live g c = record {
  does = record {
    map = λ clean ours s are.
        let mid = behind c.in_ok-row.ensures.does.keeps c.segments_of.ensures.does.keeps.stays clean ours s are in
        found_live s c.args.upload (tables_of (g.T.Statements.state c.find_staged.new.tx)) (record { row = c.in-Live.row; received = c.in_ok-segments_of-in-Live.field-0 }) mid.are
        (sym c.in-Live.is ∙ c.in_ok-row.ensures.does.map mid.clean ours s are) (c.in_ok-segments_of-in-Live.ensures.does.ok clean mid.ours);
    keeps = reads_ok (reads_then c.in_ok-row.ensures.does.keeps c.in_ok-segments_of-in-Live.ensures.does.keeps);
  };
}

pub returns-in-TimedOut : goal.returns-in-TimedOut
returns-in-TimedOut g c = record {
  does = record {
    map = λ clean ours s are. sym (c.in_ok-row.ensures.does.map clean ours s are) ∙ c.in-TimedOut.is;
    keeps = reads_ok c.in_ok-row.ensures.does.keeps;
  };
}

pub returns-in-Unknown : goal.returns-in-Unknown
returns-in-Unknown g c = record {
  does = record {
    map = λ clean ours s are. sym (c.in_ok-row.ensures.does.map clean ours s are) ∙ c.in-Unknown.is;
    keeps = reads_ok c.in_ok-row.ensures.does.keeps;
  };
}

pub returns-in_err-segments_of-in-Live : goal.returns-in_err-segments_of-in-Live
returns-in_err-segments_of-in-Live g c = record {
  does =
      reads_failed c.from_residual-in_err-segments_of-in-Live.ensures.1
      (reads_then c.in_ok-row.ensures.does.keeps c.in_err-segments_of-in-Live.ensures.does.keeps);
}

pub returns-in_err-row : goal.returns-in_err-row
returns-in_err-row g c = record { does = reads_failed c.from_residual.ensures.1 c.in_err-row.ensures.does.keeps }
