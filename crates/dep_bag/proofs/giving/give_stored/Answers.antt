use Rattle.std.proofs.Common.{◌++◌, ◌∙◌, refl, subst}
use Rattle.std.specs.Io.KnownBytes.{Appends}
use Rattle.std.proofs.KnownBytes.{Appends-nil, Appends-trans}
use Rattle.dep_types.specs.Sinks.{file_begun, file_ended, file_given}
use Rattle.dep_bag.specs.ExportFaults.{unsent_fault}
use Rattle.dep_bag.specs.Giving.{state_of}
use Rattle.dep_manifest.specs.Reported.{row_path}
use Rattle.dep_bag.specs.declared.export_fault.ExportFault.TheVariants.{Sink, Memory}
use Rattle.dep_bag.proofs.GivenParts.{cause_passed, err_keeps, faulty, kept, nothing_given, ours_there}
use Rattle.dep_bag.proofs.StoredFiles.{all_front, all_sent, none_streamed, unsent_cause, unsent_front, unsent_ours}
use Rattle.dep_bag.proofs.giving.give_stored.Goals as goal

pub returns-in_err-path : goal.returns-in_err-path
returns-in_err-path g c =
    let reported = state_of g.K.Outlet.taken g.K.Outlet.failures in
    none_streamed (g.S.BagSource.condition c.args.source.now) (g.met.S.BagSource.settled c.args.source.now) (reported c.args.sink.now) (reported c.args.sink.now)
    c.args.row.now c.from_residual.result Memory (Appends-nil (g.K.Outlet.taken c.args.sink.now)) refl c.from_residual.ensures.1 tt

pub returns-in_err-begin : goal.returns-in_err-begin
returns-in_err-begin g c =
    let reported = state_of g.K.Outlet.taken g.K.Outlet.failures in
    none_streamed (g.S.BagSource.condition c.args.source.now) (g.met.S.BagSource.settled c.args.source.now) (reported c.args.sink.now) (reported c.begin.new.self)
    c.args.row.now c.from_residual-in_err-begin.result Sink
    (nothing_given (g.K.Outlet.taken c.args.sink.now) (g.K.Outlet.taken c.begin.new.self) c.in_err-begin.ensures.err) c.in_err-begin.ensures.cause
    c.from_residual-in_err-begin.ensures.1 tt

pub returns : goal.returns
returns g c =
    let sends = c.in_ok-stream.ensures.sends in
    let path = row_path c.args.row.now in
    let begun = subst (λ p. Appends (g.K.Outlet.taken c.args.sink.now) (g.K.Outlet.taken c.begin.new.self) (file_begun p)) (c.as_str.ensures ∙ c.in_ok-path.ensures) c.in_ok-begin.ensures.ok in
    let all = Appends-trans (g.K.Outlet.taken c.args.sink.now) (g.K.Outlet.taken c.begin.new.self) (g.K.Outlet.taken c.stream.new.out) (file_begun path) sends.0 begun sends.1 in
    record {
      given = (file_begun path ++ sends.0) ++ file_ended;
      appends = Appends-trans (g.K.Outlet.taken c.args.sink.now) (g.K.Outlet.taken c.stream.new.out) (g.K.Outlet.taken c.finish.new.self) (file_begun path ++ sends.0) file_ended all c.in_ok-finish.ensures.ok;
      is = λ clean s at bytes has. all_sent s ((g.S.BagSource.condition c.args.source.now).sound_if_kept s at) c.args.row.now.file path sends.0 bytes (sends.2 clean s at) has;
      cause = c.in_ok-finish.ensures.count ∙ (c.in_ok-stream.ensures.count ∙ c.in_ok-begin.ensures.count);
      kept = c.in_ok-stream.ensures.kept;
      still = c.in_ok-stream.ensures.still;
      there = λ is. cc;
    }

pub returns-in_err-finish : goal.returns-in_err-finish
returns-in_err-finish g c =
    let sends = c.in_ok-stream.ensures.sends in
    let path = row_path c.args.row.now in
    let begun = subst (λ p. Appends (g.K.Outlet.taken c.args.sink.now) (g.K.Outlet.taken c.begin.new.self) (file_begun p)) (c.as_str.ensures ∙ c.in_ok-path.ensures) c.in_ok-begin.ensures.ok in
    let all = Appends-trans (g.K.Outlet.taken c.args.sink.now) (g.K.Outlet.taken c.begin.new.self) (g.K.Outlet.taken c.stream.new.out) (file_begun path) sends.0 begun sends.1 in
    let result = c.from_residual-in_err-finish.result in
    let err = c.from_residual-in_err-finish.ensures.1 in
    record {
      given = file_begun path ++ sends.0;
      appends = kept (g.K.Outlet.taken c.args.sink.now) (g.K.Outlet.taken c.stream.new.out) (g.K.Outlet.taken c.finish.new.self) (file_begun path ++ sends.0) all c.in_err-finish.ensures.err;
      is = λ clean s at bytes has. faulty result Sink (file_given (path, bytes)) (file_begun path ++ sends.0) err tt
          (all_front s ((g.S.BagSource.condition c.args.source.now).sound_if_kept s at) c.args.row.now.file path sends.0 bytes (sends.2 clean s at) has);
      cause = cause_passed (g.K.Outlet.failures c.args.sink.now) (g.K.Outlet.failures c.stream.new.out) (g.K.Outlet.failures c.finish.new.self) result Sink
          (c.in_ok-stream.ensures.count ∙ c.in_ok-begin.ensures.count) c.in_err-finish.ensures.cause err;
      kept = λ clean s at. err_keeps result Sink _ err;
      still = c.in_ok-stream.ensures.still;
      there = ours_there result Sink err tt;
    }

pub returns-in_err-stream : goal.returns-in_err-stream
returns-in_err-stream g c =
    let failed = c.in_err-stream.ensures in
    let sends = failed.sends in
    let fault = c.in_err-stream.field-0.0 in
    let path = row_path c.args.row.now in
    let begun = subst (λ p. Appends (g.K.Outlet.taken c.args.sink.now) (g.K.Outlet.taken c.begin.new.self) (file_begun p)) (c.as_str.ensures ∙ c.in_ok-path.ensures) c.in_ok-begin.ensures.ok in
    let result = c.from_residual-in_err-stream.result in
    let err = c.from_residual-in_err-stream.ensures.1 in
    record {
      given = file_begun path ++ sends.0;
      appends = Appends-trans (g.K.Outlet.taken c.args.sink.now) (g.K.Outlet.taken c.begin.new.self) (g.K.Outlet.taken c.stream.new.out) (file_begun path) sends.0 begun sends.1;
      is = λ clean s at bytes has. faulty result (unsent_fault fault) (file_given (path, bytes)) (file_begun path ++ sends.0) err (unsent_ours fault)
          (unsent_front s ((g.S.BagSource.condition c.args.source.now).sound_if_kept s at) c.args.row.now.file path sends.0 bytes fault (sends.2 clean s at) has);
      cause = cause_passed (g.K.Outlet.failures c.args.sink.now) (g.K.Outlet.failures c.begin.new.self) (g.K.Outlet.failures c.stream.new.out) result (unsent_fault fault)
          c.in_ok-begin.ensures.count (unsent_cause (g.K.Outlet.failures c.begin.new.self) (g.K.Outlet.failures c.stream.new.out) fault failed.cause failed.others) err;
      kept = λ clean s at. err_keeps result (unsent_fault fault) _ err;
      still = failed.still;
      there = ours_there result (unsent_fault fault) err (unsent_ours fault);
    }
