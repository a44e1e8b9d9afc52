-- The number of each status (RFC 9110, section 15; RFC 4918, section 11.5).
use Rattle.std.specs.Prelude.{ℕ}
use Rattle.dep_reply.specs.declared.status.Status.{Status}
use Rattle.dep_reply.specs.declared.status.Status.TheVariants.{Ok, Created, NoContent, BadRequest, NotFound, MethodNotAllowed, Gone, PreconditionFailed, ContentTooLarge, UnsupportedMediaType, InsufficientStorage}

-- the number that the status line has
abbrev pub status_number : Status → ℕ
status_number Ok = 200
status_number Created = 201
status_number NoContent = 204
status_number BadRequest = 400
status_number NotFound = 404
status_number MethodNotAllowed = 405
status_number Gone = 410
status_number PreconditionFailed = 412
status_number ContentTooLarge = 413
status_number UnsupportedMediaType = 415
status_number InsufficientStorage = 507
