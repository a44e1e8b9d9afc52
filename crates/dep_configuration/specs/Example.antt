-- The configuration that the example gives.
use Rattle.std.specs.Prelude.{[], ◌∷◌, None, codes}
use Rattle.std.specs.declared.net.ip_addr.IpAddr.TheVariants.{V4}
use Rattle.dep_docs_out.specs.ExampleDocuments.{example_config}
use Rattle.dep_configuration.specs.declared.configuration.Configuration.{Configuration}
use Rattle.dep_configuration.specs.declared.configuration.ServerLimits.{ServerLimits}

abbrev pub example_limits : ServerLimits
example_limits = record {
  idle_seconds = 60;
  least_rate = 4096;
  connections = None;
  address_connections = 1024;
  spool_bytes = 68719476736;
  unfinished_bytes = 1073741824;
}

-- reached from its own host alone, at port 8080; deposits may be as large as is allowed
abbrev pub example_configuration : Configuration
example_configuration = record {
  address = V4 record { octets = 127 ∷ 0 ∷ 0 ∷ 1 ∷ [] };
  port = 8080;
  database = codes "/var/lib/swordd/deposits.db";
  spool_folder = codes "/var/lib/swordd/spools";
  stop_file = [];
  config = example_config;
  limits = example_limits;
  reserve_bytes = 33554432;
}
