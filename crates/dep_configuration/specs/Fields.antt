-- The fields of a configuration: what each is called, and what it has to be.
use Rattle.std.specs.Prelude.{ℕ, List, codes}
use Rattle.dep_configuration.specs.declared.field.ConfigurationField.{ConfigurationField}
use Rattle.dep_configuration.specs.declared.field.ConfigurationField.TheVariants.{Address, Port, Database, SpoolFolder, StopFile, Base, Title, Abstract, Depositor, OnBehalfOf, RequireIfMatch, MaxUpload, MaxAssembled, MaxSegments, StagingMaxIdle, IdleSeconds, LeastRate, Connections, AddressConnections, SpoolBytes, UnfinishedBytes, ReserveBytes}
use Rattle.dep_configuration.specs.declared.field.Bounds.{Bounds}
use Rattle.dep_configuration.specs.declared.field.Wanted.{Wanted}
use Rattle.dep_configuration.specs.declared.field.Wanted.TheVariants as Kind

-- the key that a configuration file gives the value under
unfoldable pub configuration_key : ConfigurationField → List ℕ
configuration_key Address = codes "address"
configuration_key Port = codes "port"
configuration_key Database = codes "database"
configuration_key SpoolFolder = codes "spool_folder"
configuration_key StopFile = codes "stop_file"
configuration_key Base = codes "base"
configuration_key Title = codes "title"
configuration_key Abstract = codes "abstract"
configuration_key Depositor = codes "depositor"
configuration_key OnBehalfOf = codes "on_behalf_of"
configuration_key RequireIfMatch = codes "require_if_match"
configuration_key MaxUpload = codes "max_upload"
configuration_key MaxAssembled = codes "max_assembled"
configuration_key MaxSegments = codes "max_segments"
configuration_key StagingMaxIdle = codes "staging_max_idle"
configuration_key IdleSeconds = codes "idle_seconds"
configuration_key LeastRate = codes "least_rate"
configuration_key Connections = codes "connections"
configuration_key AddressConnections = codes "address_connections"
configuration_key SpoolBytes = codes "spool_bytes"
configuration_key UnfinishedBytes = codes "unfinished_bytes"
configuration_key ReserveBytes = codes "reserve_bytes"

abbrev pub bounds : (least most : ℕ) → Bounds
bounds least most = record { least = least; most = most }

-- what a whole number may be; of any other field, 0 alone
unfoldable pub bounds_of : ConfigurationField → Bounds
bounds_of Port = bounds 1 65535
bounds_of MaxUpload = bounds 1 16777216
bounds_of MaxAssembled = bounds 1 17179869184
bounds_of MaxSegments = bounds 1 10000
bounds_of StagingMaxIdle = bounds 1 31536000
bounds_of IdleSeconds = bounds 1 86400
bounds_of LeastRate = bounds 0 1000000000
bounds_of Connections = bounds 1 1000000000
bounds_of AddressConnections = bounds 1 1024
bounds_of SpoolBytes = bounds 1048576 1125899906842624
bounds_of UnfinishedBytes = bounds 33554432 1099511627776
bounds_of ReserveBytes = bounds 0 67108864
bounds_of f = bounds 0 0

-- what a field takes; numbers are bytes, seconds, bytes per second or counts
unfoldable pub wanted_of : ConfigurationField → Wanted
wanted_of Address = Kind.Address
wanted_of Database = Kind.FilledText
wanted_of SpoolFolder = Kind.FilledText
wanted_of StopFile = Kind.AnyText
wanted_of Base = Kind.Base
wanted_of Title = Kind.AnyText
wanted_of Abstract = Kind.AnyText
wanted_of Depositor = Kind.AnyText
wanted_of OnBehalfOf = Kind.Flag
wanted_of RequireIfMatch = Kind.Flag
wanted_of f = Kind.WholeNumber (bounds_of f)
