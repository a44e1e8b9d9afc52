use Rattle.dep_application.specs.Working.{opened, not_opened}
use Rattle.dep_application.proofs.working.work_on_file.Goals as goal

pub returns-in-Ok : goal.returns-in-Ok
returns-in-Ok g c = opened c.in-Ok.connection c.in-Ok.ensures.fresh c.work_over.ensures

pub returns-in-Err : goal.returns-in-Err
returns-in-Err g c = not_opened c.in-Err.field-0 c.in-Err.ensures.named
