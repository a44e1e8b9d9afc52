-- The documents that the server writes (SWORD 3.0), as JSON data and as bytes.
use Rattle.std.specs.Prelude.{ℕ, ◌==◌, min, not, Bool, true, List, [], ◌∷◌, ◌++◌, map, filter, Option, Some, None, codes, decimal, if◌then◌else◌}
use Rattle.std.specs.List.{list_any, range_with_len}
use Rattle.std.specs.FinMap as finmap
use Rattle.serde_json.specs.Data.{Data, boolean}
use Rattle.serde_json.specs.Written.{compact_text}
use Rattle.dep_types.specs.Refusals.{facts_of}
use Rattle.dep_types.specs.declared.refusal.Refusal.{Refusal}
use Rattle.dep_types.specs.declared.config.Config.{Config}
use Rattle.dep_types.specs.declared.rows.FileRow.{FileRow}
use Rattle.dep_types.specs.declared.rows.ObjectRow.{ObjectRow}
use Rattle.dep_types.specs.declared.rows.ObjectView.{ObjectView}
use Rattle.dep_types.specs.declared.rows.UploadRow.{UploadRow}
use Rattle.dep_types.specs.State.{Texts}
use Rattle.dep_types.specs.Names.{binary, metadata_format}
use Rattle.dep_moment.specs.Civil.{rfc3339_text}
use Rattle.dep_types.specs.Limits.{greatest_moment}
use Rattle.dep_docs_out.specs.Json.{text, whole_number, list, text_list, number_list, only, sorted_object}

-- what the names in a document mean (JSON-LD 1.1, section 3.1)
abbrev pub context : List ℕ × Data
context = (codes "@context", text (codes "https://swordapp.github.io/swordv3/swordv3.jsonld"))

-- a URL of the server
abbrev pub url : Config → List ℕ → List ℕ
url config path = config.base ++ path

-- the URL of an object
abbrev pub object_url : Config → (n : ℕ) → List ℕ
object_url config n = url config (codes "/objects/" ++ decimal n)

-- that of its metadata
abbrev pub metadata_url : Config → (n : ℕ) → List ℕ
metadata_url config n = object_url config n ++ codes "/metadata"

-- that of its files
abbrev pub files_url : Config → (n : ℕ) → List ℕ
files_url config n = object_url config n ++ codes "/files"

-- that of a file of it
abbrev pub file_url : Config → (n f : ℕ) → List ℕ
file_url config n f = object_url config n ++ codes "/files/" ++ decimal f

-- the URL of an upload
abbrev pub upload_url : Config → (n : ℕ) → List ℕ
upload_url config n = url config (codes "/staging/" ++ decimal n)

-- what the server takes
unfoldable pub service_offers : (root : List ℕ) → List (List ℕ × Data)
service_offers root =
    context
    ∷ (codes "@id", text root)
    ∷ (codes "@type", text (codes "ServiceDocument"))
    ∷ (codes "accept", only (codes "*/*"))
    ∷ (codes "acceptDeposits", boolean true)
    ∷ (codes "acceptMetadata", only metadata_format)
    ∷ (codes "acceptPackaging", only binary)
    ∷ []

-- the digests of a content that a request may promise
abbrev pub digests_data : Data
digests_data = text_list (codes "SHA-256" ∷ codes "SHA-512" ∷ [])

-- what it is called, and its limits
unfoldable pub service_limits : Config → List (List ℕ × Data)
service_limits config =
    (codes "byReferenceDeposit", boolean true)
    ∷ (codes "dc:title", text config.title)
    ∷ (codes "dcterms:abstract", text config.abstract_text)
    ∷ (codes "digest", digests_data)
    ∷ (codes "maxAssembledSize", whole_number config.max_assembled)
    ∷ (codes "maxSegments", whole_number config.max_segments)
    ∷ (codes "maxUploadSize", whole_number config.max_upload)
    ∷ []

-- where it takes it
unfoldable pub service_places : Config → (root staging : List ℕ) → List (List ℕ × Data)
service_places config root staging =
    (codes "onBehalfOf", boolean config.on_behalf_of)
    ∷ (codes "root", text root)
    ∷ (codes "staging", text staging)
    ∷ (codes "stagingMaxIdle", whole_number config.staging_max_idle)
    ∷ (codes "version", text (codes "http://purl.org/net/sword/3.0"))
    ∷ []

-- the members of the service document
abbrev pub service_members : Config → (root staging : List ℕ) → List (List ℕ × Data)
service_members config root staging =
    service_offers root ++ service_limits config ++ service_places config root staging

-- what the server offers, and its limits
unfoldable pub service_data : Config → Data
service_data config =
    sorted_object (service_members config (url config (codes "/service")) (url config (codes "/staging")))

-- the text in the log of an error document
abbrev pub log_of : Refusal → List ℕ
log_of refusal = codes "refusal " ++ decimal (facts_of refusal).number

-- the members of an error document
abbrev pub error_members : Refusal → (log : List ℕ) (clock : ℕ) → List (List ℕ × Data)
error_members refusal log clock =
    context
    ∷ (codes "@type", text (facts_of refusal).name)
    ∷ (codes "error", text (facts_of refusal).text)
    ∷ (codes "log", text log)
    ∷ (codes "timestamp", text (rfc3339_text clock))
    ∷ []

-- why a request was refused, at this second
unfoldable pub error_data : Refusal → (clock : ℕ) → Data
error_data refusal clock = sorted_object (error_members refusal (log_of refusal) clock)

-- what may be done with an object
unfoldable pub actions_data : Data
actions_data = sorted_object
    ((codes "appendFiles", boolean true)
    ∷ (codes "appendMetadata", boolean true)
    ∷ (codes "deleteFiles", boolean true)
    ∷ (codes "deleteMetadata", boolean true)
    ∷ (codes "deleteObject", boolean true)
    ∷ (codes "getFiles", boolean true)
    ∷ (codes "getMetadata", boolean true)
    ∷ (codes "replaceFiles", boolean true)
    ∷ (codes "replaceMetadata", boolean true)
    ∷ [])

-- a part of an object: where it stands, and its entity tag
unfoldable pub part_data : (url : List ℕ) → (tag : ℕ) → Data
part_data url tag = sorted_object ((codes "@id", text url) ∷ (codes "eTag", text (decimal tag)) ∷ [])

-- where a file stands, and how it came
unfoldable pub deposit_members : Config → (place : List ℕ) → FileRow → List (List ℕ × Data)
deposit_members config place file =
    (codes "@id", text place)
    ∷ (codes "contentType", text file.media)
    ∷ (codes "depositedBy", text config.depositor)
    ∷ (codes "depositedOn", text (rfc3339_text (min file.deposited greatest_moment)))
    ∷ []

-- the member that says on whose behalf a file was deposited, where it was on another's
abbrev pub behalf_members : Option (List ℕ) → List (List ℕ × Data)
behalf_members None = []
behalf_members (Some name) = (codes "depositedOnBehalfOf", text name) ∷ []

-- how a file came
abbrev pub deposit_relation : (by_reference : Bool) → List ℕ
deposit_relation by_reference =
    if by_reference then codes "http://purl.org/net/sword/3.0/terms/byReferenceDeposit"
    else codes "http://purl.org/net/sword/3.0/terms/originalDeposit"

-- the same, and that it belongs to the file set
unfoldable pub relations_data : (by_reference : Bool) → Data
relations_data by_reference = list
    (text (deposit_relation by_reference)
    ∷ text (codes "http://purl.org/net/sword/3.0/terms/fileSetFile")
    ∷ [])

-- what a file is in the file set
unfoldable pub kept_members : FileRow → List (List ℕ × Data)
kept_members file =
    (codes "eTag", text (decimal file.tag))
    ∷ (codes "packaging", text binary)
    ∷ (codes "rel", relations_data file.by_reference)
    ∷ (codes "status", text (codes "http://purl.org/net/sword/3.0/filestate/ingested"))
    ∷ []

-- a file of the object of this number
unfoldable pub link_data : Config → (n : ℕ) → FileRow → Data
link_data config n file =
    sorted_object (deposit_members config (file_url config n file.file) file
    ++ behalf_members file.behalf ++ kept_members file)

-- whether the deposit of an object is complete
abbrev pub state_id : (ingested : Bool) → List ℕ
state_id ingested =
    if ingested then codes "http://purl.org/net/sword/3.0/state/ingested"
    else codes "http://purl.org/net/sword/3.0/state/inProgress"

-- the same as a list of one state
unfoldable pub states_data : (ingested : Bool) → Data
states_data ingested = list (sorted_object ((codes "@id", text (state_id ingested)) ∷ []) ∷ [])

-- an object: where it stands, what may be done with it, its tags
unfoldable pub object_members : Config → ObjectRow → List (List ℕ × Data)
object_members config row =
    context
    ∷ (codes "@id", text (object_url config row.object))
    ∷ (codes "@type", text (codes "Status"))
    ∷ (codes "actions", actions_data)
    ∷ (codes "eTag", text (decimal row.object_tag))
    ∷ (codes "fileSet", part_data (files_url config row.object) row.files_tag)
    ∷ []

-- the members of a status document behind its links
unfoldable pub state_members : Config → ObjectRow → List (List ℕ × Data)
state_members config row =
    (codes "metadata", part_data (metadata_url config row.object) row.metadata_tag)
    ∷ (codes "service", text (url config (codes "/service")))
    ∷ (codes "state", states_data row.ingested)
    ∷ []

-- a link for each file of an object
unfoldable pub links_data : Config → ObjectView → Data
links_data config view = list (map (link_data config view.object.object) view.files)

-- an object, with a link for each of its files
unfoldable pub status_data : Config → ObjectView → Data
status_data config view =
    sorted_object (object_members config view.object
    ++ (codes "links", links_data config view) ∷ state_members config view.object)

-- a list of one text is written as the text
abbrev pub texts_data : List (List ℕ) → Data
texts_data (s ∷ []) = text s
texts_data ss = text_list ss

-- each name with its texts, by ascending name
abbrev pub texts_members : Texts → List (List ℕ × Data)
texts_members texts = map (λ e. (e.0, texts_data e.1)) (finmap.entries texts)

-- metadata under its URL
abbrev pub placed_metadata : (place : List ℕ) → Texts → List (List ℕ × Data)
placed_metadata place texts =
    context
    ∷ (codes "@id", text place)
    ∷ (codes "@type", text (codes "Metadata"))
    ∷ texts_members texts

-- and in a bag
abbrev pub unplaced_metadata : Texts → List (List ℕ × Data)
unplaced_metadata texts = context ∷ (codes "@type", text (codes "Metadata")) ∷ texts_members texts

-- the metadata of the object of this number
unfoldable pub metadata_data : Config → (n : ℕ) → Texts → Data
metadata_data config n texts = sorted_object (placed_metadata (metadata_url config n) texts)

-- the same in a bag, where it has no URL
unfoldable pub bag_metadata_data : Texts → Data
bag_metadata_data texts = sorted_object (unplaced_metadata texts)

-- the segments of an upload that are still to come, where these were received
abbrev pub expecting : (count : ℕ) (received : List ℕ) → List ℕ
expecting count received =
    filter (λ k. not (list_any (λ j. j == k) received)) (range_with_len 1 count)

-- which segments an upload waits for, and which it has
unfoldable pub segments_data : UploadRow → (received : List ℕ) → Data
segments_data row received = sorted_object
    ((codes "expecting", number_list (expecting row.count received))
    ∷ (codes "received", number_list received)
    ∷ (codes "segment_size", whole_number row.segment_size)
    ∷ (codes "size", whole_number row.size)
    ∷ [])

-- where an upload stands, and its segments
abbrev pub upload_members : (place : List ℕ) → UploadRow → (received : List ℕ)
    → List (List ℕ × Data)
upload_members place row received =
    context
    ∷ (codes "@id", text place)
    ∷ (codes "@type", text (codes "Temporary"))
    ∷ (codes "segments", segments_data row received)
    ∷ []

-- an upload of which these segments were received
unfoldable pub upload_data : Config → UploadRow → (received : List ℕ) → Data
upload_data config row received =
    sorted_object (upload_members (upload_url config row.upload) row received)

-- the service document
abbrev pub service_document : Config → List ℕ
service_document config = compact_text (service_data config)

-- the document of a refusal, at this second
abbrev pub error_document : Refusal → (clock : ℕ) → List ℕ
error_document refusal clock = compact_text (error_data refusal clock)

-- the status document of an object
abbrev pub status_document : Config → ObjectView → List ℕ
status_document config view = compact_text (status_data config view)

-- the metadata document of the object of this number
abbrev pub metadata_document : Config → (n : ℕ) → Texts → List ℕ
metadata_document config n texts = compact_text (metadata_data config n texts)

-- the same in a bag
unfoldable pub bag_metadata_document : Texts → List ℕ
bag_metadata_document texts = compact_text (bag_metadata_data texts)

-- the document of an upload of which these segments were received
abbrev pub upload_document : Config → UploadRow → (received : List ℕ) → List ℕ
upload_document config row received = compact_text (upload_data config row received)
