use Rattle.std.proofs.Common.{ℕ, Bool, true, false, codes, decimal, refl, arith}
use Rattle.dep_docs_out.specs.Documents.{object_url, files_url, metadata_url, url, status_data, object_members, links_data, state_members, actions_data, part_data, states_data, state_id}
use Rattle.dep_docs_out.proofs.Utf8.{HasUtf8, IsText, decimal_utf8, is_text}
use Rattle.dep_docs_out.proofs.PartsReadBack.{ascii, reads, object_url_utf8, files_url_utf8, metadata_url_utf8, url_utf8}
use Rattle.dep_docs_out.proofs.LinksReadBack.{links_utf8}
use Rattle.dep_docs_out.proofs.StatusRows.{status_plain}
use Rattle.dep_docs_out.proofs.laws.status_document_is_read_back.Goals as goal

state_text : (ingested : Bool) → IsText (state_id ingested)
state_text true = tt
state_text false = tt

pub returns : goal.returns
unfolding status_data object_members links_data state_members actions_data part_data states_data
returns c = λ config view texts files.
    let n = view.object.object in
    let place = is_text (object_url config n) (object_url_utf8 config n texts.base) in
    let file_set = is_text (files_url config n) (files_url_utf8 config n texts.base) in
    let metadata = is_text (metadata_url config n) (metadata_url_utf8 config n texts.base) in
    let service = is_text (url config (codes "/service")) (url_utf8 config (codes "/service") texts.base (ascii _ refl)) in
    let tag = λ (t : ℕ). is_text (decimal t) (decimal_utf8 t) in
    let actions : HasUtf8 actions_data = (tt, tt, (tt, tt, (tt, tt, (tt, tt, (tt, tt, (tt, tt, (tt, tt, (tt, tt, (tt, tt, tt))))))))) in
    let links = links_utf8 config n view.files texts.base texts.depositor files in
    let state : HasUtf8 (states_data view.object.ingested) = ((tt, state_text view.object.ingested, tt), tt) in
    reads (status_data config view) 4 (omega arith) (status_plain config view) (
      tt,
      tt,
      (
        tt,
        place,
        (
          tt,
          tt,
          (
            tt,
            actions,
            (
              tt,
              tag view.object.object_tag,
              (
                tt,
                (tt, file_set, (tt, tag view.object.files_tag, tt)),
                (
                  tt,
                  links,
                  (tt, (tt, metadata, (tt, tag view.object.metadata_tag, tt)), (tt, service, (tt, state, tt))),
                ),
              ),
            ),
          ),
        ),
      ),
    )
