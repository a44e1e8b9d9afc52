use Rattle.std.proofs.Common.{◌≡◌, ◌==◌, ◌<◌, ◌^◌, ℕ, true, not, List, refl, arith, lt-ltb}
use Rattle.std.specs.List.{AllByRecursion, list_any}
use Rattle.dep_types.specs.declared.config.Config.{Config}
use Rattle.dep_types.specs.declared.rows.UploadRow.{UploadRow}
use Rattle.dep_docs_out.specs.Documents.{upload_url, upload_data, segments_data, expecting}
use Rattle.dep_docs_out.specs.ReadBack.{HasNumbers}
use Rattle.dep_docs_out.proofs.ReadingBack.{is_plain}
use Rattle.dep_docs_out.proofs.Utf8.{HasUtf8, is_text}
use Rattle.dep_docs_out.proofs.PartsReadBack.{reads, upload_url_utf8}
use Rattle.dep_docs_out.proofs.LinksReadBack.{numbers_plain, numbers_utf8, numbers_below}
use Rattle.dep_docs_out.proofs.laws.upload_document_is_read_back.Goals as goal

below : (count : ℕ) (received : List ℕ) → count < 2 ^ 64 → AllByRecursion (λ k. k < 2 ^ 64) (expecting count received)
below count received h = numbers_below (λ k. not (list_any (λ j. j == k) received)) 1 count (2 ^ 64) (omega arith)

plain : (config : Config) (row : UploadRow) (received : List ℕ) → HasNumbers row received → is_plain (upload_data config row received) 3 ≡ true
unfolding upload_data segments_data
plain config row received h = rw (
  numbers_plain (expecting row.count received) 0 (below row.count received h.count_fits),
  numbers_plain received 0 h.received_fit,
  lt-ltb row.segment_size (2 ^ 64) h.segment_size_fits,
  lt-ltb row.size (2 ^ 64) h.size_fits,
) refl

pub returns : goal.returns
unfolding upload_data segments_data
returns c = λ config row received texts h.
    let place = is_text (upload_url config row.upload) (upload_url_utf8 config row.upload texts.base) in
    let segments : HasUtf8 (segments_data row received) = (tt, numbers_utf8 (expecting row.count received), (tt, numbers_utf8 received, (tt, tt, (tt, tt, tt)))) in
    reads (upload_data config row received) 3 (omega arith) (plain config row received h)
    (tt, tt, (tt, place, (tt, tt, (tt, segments, tt))))
