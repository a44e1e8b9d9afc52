-- Whole heads.
use Rattle.std.specs.Prelude.{ℕ, List, Some, None, true, false, codes}
use Rattle.dep_reply.specs.Head.{ReplyHead}

-- the reply to a method that the resource does not have, on a connection that is then closed
abbrev pub not_allowed_head : ReplyHead
not_allowed_head = record {
  status = 405;
  date = 1523836800;
  content_type = Some (codes "application/json");
  content_length = Some 185;
  tag = None;
  location = None;
  allow = Some (codes "GET, HEAD, POST");
  closes = true;
}

-- and its bytes
abbrev pub not_allowed_text : List ℕ
not_allowed_text = codes "HTTP/1.1 405 Method Not Allowed\r\nDate: Mon, 16 Apr 2018 00:00:00 GMT\r\nContent-Type: application/json\r\nContent-Length: 185\r\nAllow: GET, HEAD, POST\r\nConnection: close\r\n\r\n"

-- the reply to a deposit
abbrev pub created_head : ReplyHead
created_head = record {
  status = 201;
  date = 1523836800;
  content_type = Some (codes "application/json");
  content_length = Some 965;
  tag = Some 1;
  location = Some (codes "http://127.0.0.1:8080/objects/1");
  allow = None;
  closes = false;
}

-- and its bytes
abbrev pub created_text : List ℕ
created_text = codes "HTTP/1.1 201 Created\r\nDate: Mon, 16 Apr 2018 00:00:00 GMT\r\nContent-Type: application/json\r\nContent-Length: 965\r\nETag: \"1\"\r\nLocation: http://127.0.0.1:8080/objects/1\r\n\r\n"

-- a reply without content
abbrev pub no_content_head : ReplyHead
no_content_head = record {
  status = 204;
  date = 1523836800;
  content_type = None;
  content_length = None;
  tag = Some 2;
  location = None;
  allow = None;
  closes = false;
}

-- and its bytes
abbrev pub no_content_text : List ℕ
no_content_text = codes "HTTP/1.1 204 No Content\r\nDate: Mon, 16 Apr 2018 00:00:00 GMT\r\nETag: \"2\"\r\n\r\n"
