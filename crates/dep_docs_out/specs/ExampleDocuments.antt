-- Whole documents.
use Rattle.std.specs.Prelude.{ℕ, false, true, List, [], ◌∷◌, Some, None, codes}
use Rattle.std.specs.FinMap as finmap
use Rattle.dep_types.specs.State.{Object, File, Texts}
use Rattle.dep_types.specs.declared.rows.UploadRow.{UploadRow}
use Rattle.dep_types.specs.declared.config.Config.{Config}

-- a server on loopback
abbrev pub example_config : Config
example_config = record {
  base = codes "http://127.0.0.1:8080";
  title = codes "swordd";
  abstract_text = codes "Deposit service";
  depositor = codes "depositor";
  on_behalf_of = false;
  require_if_match = false;
  max_upload = 16777216;
  max_assembled = 17179869184;
  max_segments = 10000;
  staging_max_idle = 3600;
}

-- a text file of 16 April 2018
abbrev pub example_file : File
example_file = record {
  name = codes "a.txt";
  media = codes "text/plain";
  content = codes "abc";
  tag = 1;
  deposited = 1523836800;
  behalf = None;
  by_reference = false;
}

-- an object that has that file alone
abbrev pub example_object : Object
example_object = record {
  ingested = true;
  metadata = finmap.empty;
  files = finmap.from_sorted ((1, example_file) ∷ []);
  tag = 1;
  metadata_tag = 1;
  files_tag = 1;
  changed = 1523836800;
}

-- a file of text that was posted on behalf of ann
abbrev pub example_posted : File
example_posted = record example_file {
  media = codes "text/plain; charset=\"utf-8\"";
  tag = 5;
  deposited = 951868799;
  behalf = Some (codes "ann");
}

-- and one that came by reference
abbrev pub example_referred : File
example_referred = record example_file {
  media = codes "application/octet-stream";
  tag = 8;
  by_reference = true;
}

-- an object in progress that has these two
abbrev pub example_unfinished : Object
example_unfinished = record example_object {
  ingested = false;
  files = finmap.from_sorted ((3, example_posted) ∷ (12, example_referred) ∷ []);
  tag = 9;
  metadata_tag = 4;
  files_tag = 8;
}

-- one without files
abbrev pub example_empty : Object
example_empty = record example_object {
  files = finmap.from_sorted [];
  tag = 2;
  files_tag = 2;
}

-- three titles
abbrev pub example_titles : Texts
example_titles =
    finmap.from_sorted ((codes "dc:title", codes "T" ∷ codes "U" ∷ codes "V" ∷ []) ∷ [])

-- one title
abbrev pub example_title : Texts
example_title = finmap.from_sorted ((codes "dc:title", codes "T" ∷ []) ∷ [])

-- an upload of five bytes in segments of two
abbrev pub example_upload : UploadRow
example_upload =
    record { upload = 1; size = 5; count = 3; segment_size = 2; sha256 = None; sha512 = None; last = 0 }

-- its service document
unfoldable pub service_text : List ℕ
service_text = codes "{\"@context\":\"https://swordapp.github.io/swordv3/swordv3.jsonld\",\"@id\":\"http://127.0.0.1:8080/service\",\"@type\":\"ServiceDocument\",\"accept\":[\"*/*\"],\"acceptDeposits\":true,\"acceptMetadata\":[\"http://purl.org/net/sword/3.0/types/Metadata\"],\"acceptPackaging\":[\"http://purl.org/net/sword/3.0/package/Binary\"],\"byReferenceDeposit\":true,\"dc:title\":\"swordd\",\"dcterms:abstract\":\"Deposit service\",\"digest\":[\"SHA-256\",\"SHA-512\"],\"maxAssembledSize\":17179869184,\"maxSegments\":10000,\"maxUploadSize\":16777216,\"onBehalfOf\":false,\"root\":\"http://127.0.0.1:8080/service\",\"staging\":\"http://127.0.0.1:8080/staging\",\"stagingMaxIdle\":3600,\"version\":\"http://purl.org/net/sword/3.0\"}"

-- the document of a digest that does not match
unfoldable pub error_text : List ℕ
error_text = codes "{\"@context\":\"https://swordapp.github.io/swordv3/swordv3.jsonld\",\"@type\":\"DigestMismatch\",\"error\":\"The content does not match its digest\",\"log\":\"refusal 10\",\"timestamp\":\"2018-04-16T00:00:00Z\"}"

-- the status document of the object
unfoldable pub status_text : List ℕ
status_text = codes "{\"@context\":\"https://swordapp.github.io/swordv3/swordv3.jsonld\",\"@id\":\"http://127.0.0.1:8080/objects/1\",\"@type\":\"Status\",\"actions\":{\"appendFiles\":true,\"appendMetadata\":true,\"deleteFiles\":true,\"deleteMetadata\":true,\"deleteObject\":true,\"getFiles\":true,\"getMetadata\":true,\"replaceFiles\":true,\"replaceMetadata\":true},\"eTag\":\"1\",\"fileSet\":{\"@id\":\"http://127.0.0.1:8080/objects/1/files\",\"eTag\":\"1\"},\"links\":[{\"@id\":\"http://127.0.0.1:8080/objects/1/files/1\",\"contentType\":\"text/plain\",\"depositedBy\":\"depositor\",\"depositedOn\":\"2018-04-16T00:00:00Z\",\"eTag\":\"1\",\"packaging\":\"http://purl.org/net/sword/3.0/package/Binary\",\"rel\":[\"http://purl.org/net/sword/3.0/terms/originalDeposit\",\"http://purl.org/net/sword/3.0/terms/fileSetFile\"],\"status\":\"http://purl.org/net/sword/3.0/filestate/ingested\"}],\"metadata\":{\"@id\":\"http://127.0.0.1:8080/objects/1/metadata\",\"eTag\":\"1\"},\"service\":\"http://127.0.0.1:8080/service\",\"state\":[{\"@id\":\"http://purl.org/net/sword/3.0/state/ingested\"}]}"

-- the metadata document of the three titles
unfoldable pub metadata_text : List ℕ
metadata_text = codes "{\"@context\":\"https://swordapp.github.io/swordv3/swordv3.jsonld\",\"@id\":\"http://127.0.0.1:8080/objects/1/metadata\",\"@type\":\"Metadata\",\"dc:title\":[\"T\",\"U\",\"V\"]}"

-- that of the one title in a bag
unfoldable pub bag_metadata_text : List ℕ
bag_metadata_text = codes "{\"@context\":\"https://swordapp.github.io/swordv3/swordv3.jsonld\",\"@type\":\"Metadata\",\"dc:title\":\"T\"}"

-- the document of the upload, whose second segment is still to come
unfoldable pub upload_text : List ℕ
upload_text = codes "{\"@context\":\"https://swordapp.github.io/swordv3/swordv3.jsonld\",\"@id\":\"http://127.0.0.1:8080/staging/1\",\"@type\":\"Temporary\",\"segments\":{\"expecting\":[2],\"received\":[1,3],\"segment_size\":2,\"size\":5}}"

-- the status document of the object in progress
unfoldable pub unfinished_text : List ℕ
unfinished_text = codes "{\"@context\":\"https://swordapp.github.io/swordv3/swordv3.jsonld\",\"@id\":\"http://127.0.0.1:8080/objects/7\",\"@type\":\"Status\",\"actions\":{\"appendFiles\":true,\"appendMetadata\":true,\"deleteFiles\":true,\"deleteMetadata\":true,\"deleteObject\":true,\"getFiles\":true,\"getMetadata\":true,\"replaceFiles\":true,\"replaceMetadata\":true},\"eTag\":\"9\",\"fileSet\":{\"@id\":\"http://127.0.0.1:8080/objects/7/files\",\"eTag\":\"8\"},\"links\":[{\"@id\":\"http://127.0.0.1:8080/objects/7/files/3\",\"contentType\":\"text/plain; charset=\\\"utf-8\\\"\",\"depositedBy\":\"depositor\",\"depositedOn\":\"2000-02-29T23:59:59Z\",\"depositedOnBehalfOf\":\"ann\",\"eTag\":\"5\",\"packaging\":\"http://purl.org/net/sword/3.0/package/Binary\",\"rel\":[\"http://purl.org/net/sword/3.0/terms/originalDeposit\",\"http://purl.org/net/sword/3.0/terms/fileSetFile\"],\"status\":\"http://purl.org/net/sword/3.0/filestate/ingested\"},{\"@id\":\"http://127.0.0.1:8080/objects/7/files/12\",\"contentType\":\"application/octet-stream\",\"depositedBy\":\"depositor\",\"depositedOn\":\"2018-04-16T00:00:00Z\",\"eTag\":\"8\",\"packaging\":\"http://purl.org/net/sword/3.0/package/Binary\",\"rel\":[\"http://purl.org/net/sword/3.0/terms/byReferenceDeposit\",\"http://purl.org/net/sword/3.0/terms/fileSetFile\"],\"status\":\"http://purl.org/net/sword/3.0/filestate/ingested\"}],\"metadata\":{\"@id\":\"http://127.0.0.1:8080/objects/7/metadata\",\"eTag\":\"4\"},\"service\":\"http://127.0.0.1:8080/service\",\"state\":[{\"@id\":\"http://purl.org/net/sword/3.0/state/inProgress\"}]}"

-- and of the one without files
unfoldable pub empty_text : List ℕ
empty_text = codes "{\"@context\":\"https://swordapp.github.io/swordv3/swordv3.jsonld\",\"@id\":\"http://127.0.0.1:8080/objects/1\",\"@type\":\"Status\",\"actions\":{\"appendFiles\":true,\"appendMetadata\":true,\"deleteFiles\":true,\"deleteMetadata\":true,\"deleteObject\":true,\"getFiles\":true,\"getMetadata\":true,\"replaceFiles\":true,\"replaceMetadata\":true},\"eTag\":\"2\",\"fileSet\":{\"@id\":\"http://127.0.0.1:8080/objects/1/files\",\"eTag\":\"2\"},\"links\":[],\"metadata\":{\"@id\":\"http://127.0.0.1:8080/objects/1/metadata\",\"eTag\":\"1\"},\"service\":\"http://127.0.0.1:8080/service\",\"state\":[{\"@id\":\"http://purl.org/net/sword/3.0/state/ingested\"}]}"
