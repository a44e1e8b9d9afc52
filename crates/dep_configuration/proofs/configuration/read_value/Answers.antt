use Rattle.std.proofs.lemmas.Result.{err_from_is_err_and}
use Rattle.json.specs.Value.{value_view}
use Rattle.dep_configuration.proofs.FirstFaults.{first-of-names, last-of-base, then-of-fields}
use Rattle.dep_configuration.proofs.ValuesGiven.{limits-of}
use Rattle.dep_configuration.proofs.configuration.read_value.Goals as goal

pub returns-in_err-check_names-clause-refused : goal.returns-in_err-check_names-clause-refused
returns-in_err-check_names-clause-refused c =
    let p = err_from_is_err_and c.from_residual.result c.from_residual.ensures.1 in
    rw (p.1, p.2) (first-of-names _ (value_view c.args.value.now) c.in_err-check_names.ensures.refused)

pub returns-in_err-check_fields-clause-refused : goal.returns-in_err-check_fields-clause-refused
returns-in_err-check_fields-clause-refused c =
    let p = err_from_is_err_and c.from_residual-in_err-check_fields.result c.from_residual-in_err-check_fields.ensures.1 in
    rw (p.1, p.2) (then-of-fields _ (value_view c.args.value.now) c.in_ok-check_names.ensures.taken c.in_err-check_fields.ensures.refused)

pub check_config-requires : goal.check_config-requires
check_config-requires c = limits-of c.in_ok-configuration.configuration.config (value_view c.args.value.now) c.in_ok-configuration.ensures.config

pub returns-in-Err-clause-refused : goal.returns-in-Err-clause-refused
returns-in-Err-clause-refused c =
    last-of-base c.in-Err.fault (value_view c.args.value.now) c.in_ok-configuration.configuration.config c.in_ok-check_names.ensures.taken c.in_ok-check_fields.ensures.readable c.in_ok-configuration.ensures.config
    c.in-Err.ensures.refused
