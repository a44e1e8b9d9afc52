use Rattle.std.proofs.Common.{◌<◌, ◌∙◌, Some, sym, subst, refl, arith}
use Rattle.std.proofs.lemmas.Result.{IfOk-weaker, IfOk-from_err}
use Rattle.dep_tables.specs.Tables.{Tables}
use Rattle.dep_tables.specs.declared.owner.BlockOwner.TheVariants as owner
use Rattle.dep_tables.proofs.Chains.{may_ok, may_read, may_then, may_err}
use Rattle.dep_files.proofs.Behind.{behind_any}
use Rattle.dep_files.proofs.FileCalls.{file_is}
use Rattle.dep_staging.specs.FileBlocks.{part_of}
use Rattle.dep_staging.specs.NextBytes.{Counts, Fronts, AreNextBytes}
use Rattle.dep_staging.proofs.NextBytes.{cut_by_first, first_next, is_next, none_if, none_next, some_if}
use Rattle.dep_staging.proofs.reading_on.next_bytes.Goals as goal

pub returns-then-not-is_empty : goal.returns-then-not-is_empty
returns-then-not-is_empty g c = record {
  does = record {
    map = λ is_open clean ours s are object its held.
        let has = are.common.files_parts.of_files object c.args.file its (file_is s object c.args.file ∙ held) in
        first_next (are.common.parts (owner.File c.args.file)) its.content has.size has.some has.cut c.args.start c.in_ok-first.first.items
        (c.in_ok-first.ensures.does.map is_open clean ours s are are (part_of are c.args.file 1) refl)
        (some_if c.in_ok-first.first.items _ c.is_empty.result c.is_empty.ensures c.if-not-is_empty.true c.in_ok-first.first.ok.0);
    keeps = may_ok c.in_ok-first.ensures.does.keeps;
  };
}

pub returns-then-size-eq0 : goal.returns-then-size-eq0
returns-then-size-eq0 g c = record {
  does = record {
    map = λ is_open clean ours s are object its held.
        let mid = behind_any c.in_ok-first.ensures.does.keeps c.in_ok-size.ensures.does.keeps.stays is_open clean ours s are in
        let counts = subst (λ (t : Tables). Counts t s c.args.file c.in_ok-size.size) mid.tables (c.in_ok-size.ensures.does.map clean mid.ours s mid.are) are in
        let has = are.common.files_parts.of_files object c.args.file its (file_is s object c.args.file ∙ held) in
        subst (AreNextBytes its.content c.args.start) (sym (none_if c.in_ok-first.first.items _ c.is_empty.result c.is_empty.ensures c.if-not-is_empty.false c.in_ok-first.first.ok.0))
        (none_next (are.common.parts (owner.File c.args.file)) its.content has.size has.some has.cut c.args.start (omega (arith, counts, c.if-size-eq0.true)));
    keeps = may_ok (may_then c.in_ok-first.ensures.does.keeps (may_read c.in_ok-size.ensures.does.keeps));
  };
}

pub returns : goal.returns
returns g c = record {
  does = record {
    map = λ is_open clean ours s are.
        let late = behind_any (may_then c.in_ok-first.ensures.does.keeps (may_read c.in_ok-size.ensures.does.keeps)) c.bytes_by-2.ensures.does.keeps.stays is_open clean ours s are in
        let mid = behind_any c.in_ok-first.ensures.does.keeps c.in_ok-size.ensures.does.keeps.stays is_open late.clean ours s are in
        let counts = subst (λ (t : Tables). Counts t s c.args.file c.in_ok-size.size) mid.tables (c.in_ok-size.ensures.does.map late.clean mid.ours s mid.are) are in
        IfOk-weaker c.bytes_by-2.result _ _
        (λ bytes fronts. λ object its held.
        let has = are.common.files_parts.of_files object c.args.file its (file_is s object c.args.file ∙ held) in
        let some : 0 < c.in_ok-size.size = omega (arith, c.if-size-eq0.false) in
        let cut = cut_by_first (are.common.parts (owner.File c.args.file)) its.content has.size has.some has.cut c.in_ok-size.size counts some in
        is_next its.content c.args.start bytes.items (subst (λ (t : Tables). Fronts t s c.args.file (Some c.in_ok-size.size) c.args.start bytes) late.tables fronts are its.content (some, cut)))
        (c.bytes_by-2.ensures.does.map late.same.0.is_open clean late.ours s late.are);
    keeps = may_then (may_then c.in_ok-first.ensures.does.keeps (may_read c.in_ok-size.ensures.does.keeps)) c.bytes_by-2.ensures.does.keeps;
  };
}

pub returns-in_err-first : goal.returns-in_err-first
returns-in_err-first g c = record {
  does = record {
    map = λ is_open clean ours s are. IfOk-from_err c.from_residual.result _ c.from_residual.ensures.0;
    keeps = may_err c.from_residual.ensures.0 c.in_err-first.ensures.does.keeps;
  };
}

pub returns-in_err-size : goal.returns-in_err-size
returns-in_err-size g c = record {
  does = record {
    map = λ is_open clean ours s are. IfOk-from_err c.from_residual-in_err-size.result _ c.from_residual-in_err-size.ensures.0;
    keeps = may_err c.from_residual-in_err-size.ensures.0 (may_then c.in_ok-first.ensures.does.keeps (may_read c.in_err-size.ensures.does.keeps));
  };
}
