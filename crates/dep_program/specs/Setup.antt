-- The configuration of the program.
use Rattle.std.specs.Prelude.{ℕ, ◌==◌, ◌++◌, List, codes, decimal, if◌then◌else◌}
use Rattle.dep_types.specs.declared.config.Config.{Config}
use Rattle.dep_docs_out.specs.ExampleDocuments.{example_config}

-- that of the examples, with this base
abbrev pub program_config : List ℕ → Config
program_config base = record example_config { base = base }

-- the base at a port of 127.0.0.1, whose URLs leave the port 80 out
abbrev pub base_at : ℕ → List ℕ
base_at port =
    if port == 80 then codes "http://127.0.0.1"
    else codes "http://127.0.0.1" ++ codes ":" ++ decimal port
