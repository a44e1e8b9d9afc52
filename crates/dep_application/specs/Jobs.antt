-- What a job makes of the database of a store.
use Rattle.std.specs.Prelude.{ℕ, List}
use Rattle.sqlite.specs.Held.{Held, state}
use Rattle.sqlite_trees.specs.declared.store.Store.{Ghosts}
use Rattle.dep_program.specs.Setup.{program_config, base_at}
use Rattle.dep_program.specs.declared.command.Job.{Job}
use Rattle.dep_program.specs.declared.command.Job.TheVariants.{Serve, Export, Audit}
use Rattle.dep_program.specs.declared.outcome.Outcome.{Outcome}
use Rattle.dep_application.specs.Databases.{ServesDatabase}
use Rattle.dep_application.specs.Examinations.{AuditsDatabase, ExportsDatabase}

-- connections are served at the port, an object is exported, or all files are audited
abbrev pub WorksOn : {S : Type 0} → (g : Ghosts S) → Job → (given back : Held S) → Outcome → Type 0
WorksOn g (Serve options) given back outcome =
    ServesDatabase g (program_config (base_at options.port)) options.count given back outcome
WorksOn g (Export object folder) given back outcome =
    ExportsDatabase (state g given) (state g back) object outcome
WorksOn g Audit given back outcome =
    (written : List ℕ) × AuditsDatabase (state g given) (state g back) written outcome
