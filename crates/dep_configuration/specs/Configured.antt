-- What a configuration is read from.
use Rattle.std.specs.Prelude.{◌≡◌, ℕ, List, [], Some, codes}
use Rattle.json.specs.Json.{Json, document}
use Rattle.dep_types.specs.Config.{IsChecked}
use Rattle.dep_types.specs.declared.config.Config.{Config}
use Rattle.dep_configuration.specs.Names.{GivesFields}
use Rattle.dep_configuration.specs.Readings.{filled_text_of, flag_of, given_text, number_or_default, optional_number_of, text_or_default, IsAddressOf}
use Rattle.dep_configuration.specs.declared.configuration.Configuration.{Configuration}
use Rattle.dep_configuration.specs.declared.configuration.ServerLimits.{ServerLimits}
use Rattle.dep_configuration.specs.declared.field.ConfigurationField.TheVariants.{Port, Database, SpoolFolder, StopFile, Base, Title, Abstract, Depositor, OnBehalfOf, RequireIfMatch, MaxUpload, MaxAssembled, MaxSegments, StagingMaxIdle, IdleSeconds, LeastRate, Connections, AddressConnections, SpoolBytes, UnfinishedBytes, ReserveBytes}

-- a value gives these limits
pub record GivesLimits (limits : ServerLimits) (j : Json) : Type 0 where
  pub idle : number_or_default IdleSeconds 60 j ≡ Some limits.idle_seconds
  pub rate : number_or_default LeastRate 4096 j ≡ Some limits.least_rate
  pub all : optional_number_of Connections j ≡ Some limits.connections
  pub address : number_or_default AddressConnections 1024 j ≡ Some limits.address_connections
  pub spool : number_or_default SpoolBytes 68719476736 j ≡ Some limits.spool_bytes
  pub unfinished : number_or_default UnfinishedBytes 1073741824 j ≡ Some limits.unfinished_bytes

-- a value gives what the server itself is set up with
pub record HasConfig (config : Config) (j : Json) : Type 0 where
  pub base : given_text Base j ≡ Some config.base
  pub title : text_or_default Title (codes "swordd") j ≡ Some config.title
  pub abstract_text : text_or_default Abstract (codes "Deposit service") j ≡ Some config.abstract_text
  pub depositor : text_or_default Depositor (codes "depositor") j ≡ Some config.depositor
  pub on_behalf_of : flag_of OnBehalfOf j ≡ Some config.on_behalf_of
  pub require_if_match : flag_of RequireIfMatch j ≡ Some config.require_if_match
  pub upload : number_or_default MaxUpload 16777216 j ≡ Some config.max_upload
  pub assembled : number_or_default MaxAssembled 17179869184 j ≡ Some config.max_assembled
  pub segments : number_or_default MaxSegments 10000 j ≡ Some config.max_segments
  pub idle : number_or_default StagingMaxIdle 3600 j ≡ Some config.staging_max_idle

-- a value gives this configuration
pub record HasConfiguration (c : Configuration) (j : Json) : Type 0 where
  pub address : IsAddressOf j c.address
  pub port : number_or_default Port 8080 j ≡ Some c.port
  pub database : filled_text_of Database j ≡ Some c.database
  pub spool_folder : filled_text_of SpoolFolder j ≡ Some c.spool_folder
  pub stop_file : text_or_default StopFile [] j ≡ Some c.stop_file
  pub config : HasConfig c.config j
  pub limits : GivesLimits c.limits j
  pub reserve : number_or_default ReserveBytes 33554432 j ≡ Some c.reserve_bytes

-- a value gives fields alone, each once, which are the configuration, and a server can be set up with it
pub record IsConfigurationRead (c : Configuration) (j : Json) : Type 0 where
  pub names : GivesFields j
  pub given : HasConfiguration c j
  pub checked : IsChecked c.config

-- a text is the configuration
pub record IsConfiguration (c : Configuration) (text : List ℕ) : Type 0 where
  pub json : Json
  pub reads : document text ≡ Some json
  pub read : IsConfigurationRead c json
