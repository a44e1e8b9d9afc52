-- Fields that can be read, one more at a time.
use Rattle.std.proofs.Common.{◌∙◌, ℕ, ◌+◌, ◌<◌, ◌≤◌, ◌++◌, length, get_or, take, drop, sym, ap, subst, arith, All}
use Rattle.std.proofs.lemmas.List.{take-append-drop, drop_more, take_all}
use Rattle.json.specs.Json.{Json}
use Rattle.dep_configuration.specs.Faults.{AreReadable, IsFaultOf, IsFirstOfFields, IsReadable}
use Rattle.dep_configuration.specs.declared.field.TheConstants.{FIELDS}
use Rattle.dep_configuration.specs.declared.field.ConfigurationField.{ConfigurationField}
use Rattle.dep_configuration.specs.declared.field.ConfigurationField.TheVariants.{Address, Port, Database, SpoolFolder, StopFile, Base, Title, Abstract, Depositor, OnBehalfOf, RequireIfMatch, MaxUpload, MaxAssembled, MaxSegments, StagingMaxIdle, IdleSeconds, LeastRate, Connections, AddressConnections, SpoolBytes, UnfinishedBytes, ReserveBytes}
use Rattle.dep_configuration.specs.declared.fault.ConfigurationFault.{ConfigurationFault}

-- what holds of all of `FIELDS` holds of each field
pub each-field : (P : ConfigurationField → Type 0) → All P FIELDS → (field : ConfigurationField) → P field
each-field P all Address = all 0 Address (omega arith)
each-field P all Port = all 1 Port (omega arith)
each-field P all Database = all 2 Database (omega arith)
each-field P all SpoolFolder = all 3 SpoolFolder (omega arith)
each-field P all StopFile = all 4 StopFile (omega arith)
each-field P all Base = all 5 Base (omega arith)
each-field P all Title = all 6 Title (omega arith)
each-field P all Abstract = all 7 Abstract (omega arith)
each-field P all Depositor = all 8 Depositor (omega arith)
each-field P all OnBehalfOf = all 9 OnBehalfOf (omega arith)
each-field P all RequireIfMatch = all 10 RequireIfMatch (omega arith)
each-field P all MaxUpload = all 11 MaxUpload (omega arith)
each-field P all MaxAssembled = all 12 MaxAssembled (omega arith)
each-field P all MaxSegments = all 13 MaxSegments (omega arith)
each-field P all StagingMaxIdle = all 14 StagingMaxIdle (omega arith)
each-field P all IdleSeconds = all 15 IdleSeconds (omega arith)
each-field P all LeastRate = all 16 LeastRate (omega arith)
each-field P all Connections = all 17 Connections (omega arith)
each-field P all AddressConnections = all 18 AddressConnections (omega arith)
each-field P all SpoolBytes = all 19 SpoolBytes (omega arith)
each-field P all UnfinishedBytes = all 20 UnfinishedBytes (omega arith)
each-field P all ReserveBytes = all 21 ReserveBytes (omega arith)

pub all-readable : (j : Json) (i : ℕ) → length FIELDS ≤ i → All (λ f. IsReadable f j) (take i FIELDS) → AreReadable j
all-readable j i past all = each-field (λ f. IsReadable f j) (subst (All (λ f. IsReadable f j)) (take_all i FIELDS past) all)

pub first-of-fields : (j : Json) (i : ℕ) (d : ConfigurationField) (e : ConfigurationFault) → i < length FIELDS → All (λ f. IsReadable f j) (take i FIELDS) → IsFaultOf (get_or FIELDS i d) e j → IsFirstOfFields e j
first-of-fields j i d e within was fault = record {
  front = take i FIELDS;
  field = get_or FIELDS i d;
  behind = drop (i + 1) FIELDS;
  stands = sym (take-append-drop i FIELDS) ∙ ap (λ l. take i FIELDS ++ l) (drop_more FIELDS i d within);
  before = was;
  fault = fault;
}
