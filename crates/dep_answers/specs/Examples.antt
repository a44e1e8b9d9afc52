-- Replies as they are written out.
use Rattle.std.specs.Prelude.{ℕ, List, [], ◌∷◌, ◌++◌, None, codes}
use Rattle.std.specs.FinMap as finmap
use Rattle.std.specs.FinSet as set
use Rattle.dep_types.specs.State.{State, Upload}
use Rattle.dep_docs_out.specs.ExampleDocuments.{example_object, status_text, upload_text}

-- an upload of five bytes in segments of two, of which the second is still to come
abbrev pub example_staged : Upload
example_staged = record {
  size = 5;
  count = 3;
  segment_size = 2;
  sha256 = None;
  sha512 = None;
  last = 0;
  segments = finmap.from_sorted ((1, codes "ab") ∷ (3, codes "e") ∷ []);
}

-- an archive of one object with one file, and of that upload, on 16 April 2018
abbrev pub example_state : State
example_state = record {
  clock = 1523836800;
  next = record { object = 2; file = 2; upload = 2; change = 2 };
  objects = finmap.from_sorted ((1, example_object) ∷ []);
  uploads = finmap.from_sorted ((1, example_staged) ∷ []);
  timed_out = set.empty;
}

-- the reply to the deposit that made the object
abbrev pub created_reply : List ℕ
created_reply =
    codes "HTTP/1.1 201 Created\r\nDate: Mon, 16 Apr 2018 00:00:00 GMT\r\nContent-Type: application/json\r\n"
    ++ codes "Content-Length: 965\r\nETag: \"1\"\r\nLocation: http://127.0.0.1:8080/objects/1\r\n\r\n"
    ++ status_text

-- that to a GET of the upload, on a connection that is then closed
abbrev pub upload_reply : List ℕ
upload_reply =
    codes "HTTP/1.1 200 OK\r\nDate: Mon, 16 Apr 2018 00:00:00 GMT\r\nContent-Type: application/json\r\n"
    ++ codes "Content-Length: 196\r\nConnection: close\r\n\r\n" ++ upload_text

-- the head of that to a GET of the file, and to a HEAD
abbrev pub file_head : List ℕ
file_head =
    codes "HTTP/1.1 200 OK\r\nDate: Mon, 16 Apr 2018 00:00:00 GMT\r\nContent-Type: text/plain\r\n"
    ++ codes "Content-Length: 3\r\nETag: \"1\"\r\n\r\n"

-- that to a PUT of metadata, whose tag is now 1
abbrev pub changed_reply : List ℕ
changed_reply =
    codes "HTTP/1.1 204 No Content\r\nDate: Mon, 16 Apr 2018 00:00:00 GMT\r\nETag: \"1\"\r\n\r\n"
